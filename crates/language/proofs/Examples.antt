-- Document 01's and the script reference's examples, every form of every statement and f: line, and the order of the refusals, in one
-- table under one statement: what the program prints is what the definitions compute. Assumes nothing.
use Prim.Native.Nat.{ℕ}
use Prim.Native.String.{String}
use mathlib.Core.Path.{◌≡◌, refl}
use mathlib.Core.List.{List, [], ◌∷◌}
use Rattle.reader.specs.Ascii.{ascii}
use Rattle.language.proofs.Opened.{printed, lists, refuses}

-- a text, and what is printed of it: the listing with its stretch, or the number, the line and the column of the refusal
pub data Case : Type 0 where
  gives : String → ℕ → String → Case
  fails : String → ℕ → ℕ → ℕ → Case

abbrev pub Says : Case → Type 0
Says (gives text stretch listing) = printed (ascii text) ≡ lists stretch (ascii listing)
Says (fails text number line column) = printed (ascii text) ≡ refuses number line column

abbrev pub All : List Case → Type 0
All [] = Unit {0}
All (c ∷ cs) = Says c × All cs

abbrev pub examples : List Case
examples =
    -- the whole case for the program: "Its stretch is 2 (LOG, END)"
    gives "; tank meter\n#LOOP\n#WAIT CLOCK\n:41 0d\n#WAIT DATA /OK\n#LOG north @c@r@n\n#END\n" 2 "#LOOP EVER\r\n#WAIT CLOCK m0000\r\n:410D\r\n#WAIT DATA /OK\r\n#LOG north @c@r@n\r\n#END\r\n"
    -- "A line ends at LF or at the end of the text; one CR at its end is dropped." "A text that ends in LF has no further line."
    ∷ gives "" 0 ""
    ∷ gives "\n" 0 ""
    ∷ gives "#NOP\r\n\n \t\n#NOP\r" 2 "#NOP\r\n#NOP\r\n"
    ∷ fails "#NOP\r\r\n" 3 1 1
    ∷ fails " #NOP" 3 1 1
    ∷ fails "nop" 3 1 1
    -- data lines: "`/` sends the rest of the line. `:` sends hex bytes"; "No data is allowed and sends nothing"; in the listing hex where a byte lies outside 20h to 7Eh
    ∷ gives "/A b \n" 1 "/A b \r\n"
    ∷ gives "/\n:\n: \t\n" 3 "/\r\n/\r\n/\r\n"
    ∷ gives ":41 0d" 1 ":410D\r\n"
    ∷ gives ":aBcD" 1 ":ABCD\r\n"
    ∷ gives ":4142" 1 "/AB\r\n"
    ∷ gives ":207e" 1 "/ ~\r\n"
    ∷ gives ":7f" 1 ":7F\r\n"
    ∷ gives ":1f" 1 ":1F\r\n"
    -- No. 5: "a lone digit between separators as a byte"; "A longer run is cut in twos and an odd last digit is a byte"
    ∷ gives ":1 2 34" 1 ":010234\r\n"
    ∷ gives ":414" 1 ":4104\r\n"
    ∷ gives ":4" 1 ":04\r\n"
    ∷ gives ": 4 " 1 ":04\r\n"
    ∷ gives ":04" 1 ":04\r\n"
    ∷ gives ":1\t1 1" 1 ":010101\r\n"
    ∷ fails ":4G" 4 1 3
    ∷ fails ":41 G" 4 1 5
    -- `#LOOP n`, n 0 to 60000; `EVER`, 0 or nothing is forever; `#END`
    ∷ gives "#LOOP 60000\n#WAIT BYTE\n#END" 1 "#LOOP 60000\r\n#WAIT BYTE 1\r\n#END\r\n"
    ∷ gives "#LOOP EVER\n#WAIT BYTE\n#END" 1 "#LOOP EVER\r\n#WAIT BYTE 1\r\n#END\r\n"
    ∷ gives "#LOOP 0\n#WAIT BYTE\n#END \t" 1 "#LOOP EVER\r\n#WAIT BYTE 1\r\n#END\r\n"
    ∷ fails "#LOOP 60001" 4 1 11
    ∷ fails "#LOOP 000001" 4 1 12
    ∷ fails "#LOOP5" 3 1 1
    ∷ fails "#LOOP 5x" 4 1 8
    ∷ fails "#loop 5" 3 1 1
    ∷ fails "#END 3" 4 1 6
    -- `#WAIT TIME`: "no number is 1, no unit is S"; times up to 60000 ms in MS, longer in S
    ∷ gives "#WAIT TIME" 0 "#WAIT TIME 1000MS\r\n"
    ∷ gives "#WAIT TIME MS" 0 "#WAIT TIME 1MS\r\n"
    ∷ gives "#WAIT TIME M" 0 "#WAIT TIME 60000MS\r\n"
    ∷ gives "#WAIT TIME 0" 1 "#WAIT TIME 0MS\r\n"
    ∷ gives "#WAIT TIME 60S" 0 "#WAIT TIME 60000MS\r\n"
    ∷ gives "#WAIT TIME 61S" 0 "#WAIT TIME 61S\r\n"
    ∷ gives "#WAIT TIME 60000MS" 0 "#WAIT TIME 60000MS\r\n"
    ∷ fails "#WAIT TIME 60001MS" 4 1 16
    ∷ gives "#WAIT TIME 60000" 0 "#WAIT TIME 60000S\r\n"
    ∷ gives "#WAIT TIME 999M" 0 "#WAIT TIME 59940S\r\n"
    ∷ fails "#WAIT TIME 1000M" 4 1 17
    ∷ fails "#WAIT TIME 5 S" 4 1 14
    ∷ fails "#WAIT TIME5" 3 1 1
    -- `#WAIT DATA` with data, not empty; the listing keeps its lines apart
    ∷ gives "#WAIT DATA /ABC\n; between\n#WAIT DATA :58 59 5a\n" 0 "#WAIT DATA /ABC\r\n#WAIT DATA /XYZ\r\n"
    ∷ gives "#WAIT DATA :0D0A" 0 "#WAIT DATA :0D0A\r\n"
    ∷ gives "#WAIT DATA :1" 0 "#WAIT DATA :01\r\n"
    -- No. 5: "a WAIT DATA line can now hold 58 bytes, the last below 10h", and is listed in hex; the 58th is 9, then 0Fh with an LF among the others, then 10h, then `A`; 57 bytes; 58 with 10h at the end, in hex
    ∷ gives "#WAIT DATA /AAAAAAAAAAAAAAAAAAAAAAAAAAAAAAAAAAAAAAAAAAAAAAAAAAAAAAAAA\t" 0 "#WAIT DATA :4141414141414141414141414141414141414141414141414141414141414141414141414141414141414141414141414141414141414141419\r\n"
    ∷ gives "#WAIT DATA :0a4141414141414141414141414141414141414141414141414141414141414141414141414141414141414141414141414141414141414141f" 0 "#WAIT DATA :0A4141414141414141414141414141414141414141414141414141414141414141414141414141414141414141414141414141414141414141F\r\n"
    ∷ gives "#WAIT DATA /AAAAAAAAAAAAAAAAAAAAAAAAAAAAAAAAAAAAAAAAAAAAAAAAAAAAAAAAA\u{10}" 0 "#WAIT DATA /AAAAAAAAAAAAAAAAAAAAAAAAAAAAAAAAAAAAAAAAAAAAAAAAAAAAAAAAA\u{10}\r\n"
    ∷ gives "#WAIT DATA /AAAAAAAAAAAAAAAAAAAAAAAAAAAAAAAAAAAAAAAAAAAAAAAAAAAAAAAAAA" 0 "#WAIT DATA /AAAAAAAAAAAAAAAAAAAAAAAAAAAAAAAAAAAAAAAAAAAAAAAAAAAAAAAAAA\r\n"
    ∷ gives "#WAIT DATA :0a414141414141414141414141414141414141414141414141414141414141414141414141414141414141414141414141414141414141411" 0 "#WAIT DATA :0A4141414141414141414141414141414141414141414141414141414141414141414141414141414141414141414141414141414141414101\r\n"
    ∷ fails "#WAIT DATA :0a414141414141414141414141414141414141414141414141414141414141414141414141414141414141414141414141414141414141414110" 1 1 128
    ∷ fails "#WAIT DATA" 4 1 11
    ∷ fails "#WAIT DATA /" 4 1 13
    ∷ fails "#WAIT DATA :" 4 1 13
    ∷ fails "#WAIT DATA ABC" 4 1 12
    ∷ fails "#WAIT DATA/A" 3 1 1
    -- `#WAIT BYTE n`, 0 to 60000, nothing is 1
    ∷ gives "#WAIT BYTE" 0 "#WAIT BYTE 1\r\n"
    ∷ gives "#WAIT BYTE 0" 1 "#WAIT BYTE 0\r\n"
    ∷ gives "#WAIT BYTE 60000" 0 "#WAIT BYTE 60000\r\n"
    ∷ fails "#WAIT BYTE 60001" 4 1 16
    -- the reference's table of WAIT CLOCK
    ∷ gives "#WAIT CLOCK D03112615" 0 "#WAIT CLOCK D03112615\r\n"
    ∷ gives "#WAIT CLOCK D031126" 0 "#WAIT CLOCK D03112600\r\n"
    ∷ gives "#WAIT CLOCK D03" 0 "#WAIT CLOCK D03000000\r\n"
    ∷ gives "#WAIT CLOCK h112615" 0 "#WAIT CLOCK h112615\r\n"
    ∷ gives "#WAIT CLOCK h11" 0 "#WAIT CLOCK h110000\r\n"
    ∷ gives "#WAIT CLOCK D" 0 "#WAIT CLOCK h000000\r\n"
    ∷ gives "#WAIT CLOCK m2615" 0 "#WAIT CLOCK m2615\r\n"
    ∷ gives "#WAIT CLOCK h" 0 "#WAIT CLOCK m0000\r\n"
    ∷ gives "#WAIT CLOCK" 0 "#WAIT CLOCK m0000\r\n"
    ∷ gives "#WAIT CLOCK s15" 0 "#WAIT CLOCK s15\r\n"
    ∷ gives "#WAIT CLOCK m" 0 "#WAIT CLOCK s00\r\n"
    ∷ gives "#WAIT CLOCK s" 0 "#WAIT CLOCK s\r\n"
    -- clock values: units left out, ranges, "two digits"
    ∷ gives "#WAIT CLOCK 11" 0 "#WAIT CLOCK h110000\r\n"
    ∷ gives "#WAIT CLOCK h00" 0 "#WAIT CLOCK h000000\r\n"
    ∷ fails "#WAIT CLOCK D00" 4 1 15
    ∷ gives "#WAIT CLOCK D01" 0 "#WAIT CLOCK D01000000\r\n"
    ∷ gives "#WAIT CLOCK D31" 0 "#WAIT CLOCK D31000000\r\n"
    ∷ fails "#WAIT CLOCK D32" 4 1 15
    ∷ gives "#WAIT CLOCK h23" 0 "#WAIT CLOCK h230000\r\n"
    ∷ fails "#WAIT CLOCK h24" 4 1 15
    ∷ gives "#WAIT CLOCK m59" 0 "#WAIT CLOCK m5900\r\n"
    ∷ fails "#WAIT CLOCK m60" 4 1 14
    ∷ fails "#WAIT CLOCK s60" 4 1 14
    ∷ fails "#WAIT CLOCK s1" 4 1 15
    ∷ fails "#WAIT CLOCK s1515" 4 1 16
    -- signals and RTS; `#FCHANGE`, `#PAUSE`, `#RESUME`, `#NOP`; "after `#WAIT` the second word too"
    ∷ gives "#WAIT CTSON\n#WAIT CTSOFF\n#WAIT EX1ON\n#WAIT EX1OFF\n#WAIT EX2ON\n#WAIT EX2OFF\n#WAIT EX3ON\n#WAIT EX3OFF\n#WAIT EX4ON\n#WAIT \tEX4OFF \n" 10 "#WAIT CTSON\r\n#WAIT CTSOFF\r\n#WAIT EX1ON\r\n#WAIT EX1OFF\r\n#WAIT EX2ON\r\n#WAIT EX2OFF\r\n#WAIT EX3ON\r\n#WAIT EX3OFF\r\n#WAIT EX4ON\r\n#WAIT EX4OFF\r\n"
    ∷ gives "#RTS ON\n#RTS OFF\n#FCHANGE\n#PAUSE\n#RESUME\n#NOP" 6 "#RTS ON\r\n#RTS OFF\r\n#FCHANGE\r\n#PAUSE\r\n#RESUME\r\n#NOP\r\n"
    ∷ fails "#RTS" 4 1 5
    ∷ fails "#RTS X" 4 1 6
    ∷ fails "#NOP 1" 4 1 6
    ∷ fails "#WAIT" 3 1 1
    ∷ fails "#WAIT CTS ON" 3 1 1
    ∷ fails "#WAIT EX5ON" 3 1 1
    -- `#LOG`, one space, text: signs; "`#LOG` by itself has empty text"
    ∷ gives "#LOG @c@Y@M@D@h@m@s@@@r@n" 1 "#LOG @c@Y@M@D@h@m@s@@@r@n\r\n"
    ∷ gives "#LOG\n#LOG \n#LOG  " 3 "#LOG\r\n#LOG\r\n#LOG  \r\n"
    ∷ fails "#LOG @x" 4 1 7
    ∷ fails "#LOG @" 4 1 7
    ∷ fails "#LOG @@@" 4 1 9
    ∷ fails "#LOG\t" 4 1 5
    ∷ fails "#LOGx" 3 1 1
    -- `#PROCESS`: the first such line, if no statement comes before it, begins the first process
    ∷ gives "#PROCESS" 0 ""
    ∷ gives "#PROCESS\n#NOP\n" 1 "#NOP\r\n"
    ∷ gives "#PROCESS\n#PROCESS\n#NOP\n" 1 "#PROCESS\r\n#PROCESS\r\n#NOP\r\n"
    ∷ gives "#NOP\n#PROCESS\n#NOP\n#NOP\n" 2 "#NOP\r\n#PROCESS\r\n#NOP\r\n#NOP\r\n"
    ∷ fails "#NOP\n#PROCESS x" 4 2 10
    -- `#f:ENCODE` one byte as the reference writes it; the last holds
    ∷ gives "#f:ENCODE :1b" 0 "#f:ENCODE :1B\r\n"
    ∷ gives "#f:ENCODE :4G" 0 "#f:ENCODE :04\r\n"
    ∷ gives "#f:ENCODE :414" 0 "#f:ENCODE :41\r\n"
    ∷ gives "#f:ENCODE A more" 0 "#f:ENCODE :41\r\n"
    ∷ gives "#f:ENCODE /:" 0 "#f:ENCODE :3A\r\n"
    ∷ gives "#f:ENCODE //" 0 "#f:ENCODE :2F\r\n"
    ∷ gives "#f:ENCODE :00\n#f:ENCODE Z" 0 "#f:ENCODE :5A\r\n"
    ∷ fails "#f:ENCODE" 4 1 10
    ∷ fails "#f:ENCODE :" 4 1 12
    ∷ fails "#f:ENCODE /" 4 1 12
    -- `#f:STOPBITS`: exactly `2` is two; `#f:EX1 IN`; `#f:OMIT` with marked data, several lines add up; `#f:LFEXT` made capital; the listing's order
    ∷ gives "#f:STOPBITS 2 " 0 "#f:STOPBITS 2\r\n"
    ∷ gives "#f:STOPBITS 02" 0 ""
    ∷ gives "#f:STOPBITS" 0 ""
    ∷ gives "#f:EX1 IN\n#f:EX2 IN\n#f:EX3 IN\n#f:EX4 IN" 0 ""
    ∷ fails "#f:EX1 OUT" 4 1 8
    ∷ fails "#f:EX5 IN" 3 1 1
    ∷ gives "#f:OMIT /AB\n#f:OMIT :0d\n#f:OMIT /\n" 0 "#f:OMIT :41420D\r\n"
    ∷ gives "#f:OMIT :1 23 4" 0 "#f:OMIT :012304\r\n"
    ∷ fails "#f:OMIT AB" 4 1 9
    ∷ fails "#f:OMIT /0123456789A" 10 1 1
    ∷ gives "#f:LFEXT a1" 0 "#f:LFEXT A1\r\n"
    ∷ gives "#f:LFEXT log" 0 ""
    ∷ fails "#f:LFEXT" 4 1 9
    ∷ fails "#f:LFEXT abcd" 4 1 13
    ∷ fails "#f:LFEXT a_" 4 1 11
    ∷ gives "#f:LFEXT x\n#f:OMIT /Q\n#f:STOPBITS 2\n#f:ENCODE Q\n" 0 "#f:ENCODE :51\r\n#f:STOPBITS 2\r\n#f:OMIT :51\r\n#f:LFEXT X\r\n"
    -- loops: 6, 7 and 8; a PROCESS line and the end of the text name the innermost open one; 8 before 9
    ∷ fails "#LOOP\n#LOOP 2\n#PROCESS\n" 8 2 1
    ∷ fails "#LOOP\n#LOOP 2\n#END\n" 8 1 1
    ∷ fails "#NOP\n#END\n" 7 2 1
    ∷ fails "#LOOP\n#LOOP\n#LOOP\n#LOOP\n#LOOP\n#LOOP\n#LOOP\n#LOOP\n#LOOP\n" 6 9 1
    ∷ fails "#NOP\n#PROCESS\n#PROCESS\n#PROCESS\n#PROCESS\n#PROCESS\n#PROCESS\n#PROCESS\n#PROCESS\n" 9 9 1
    ∷ fails "#NOP\n#PROCESS\n#PROCESS\n#PROCESS\n#PROCESS\n#PROCESS\n#PROCESS\n#PROCESS\n#LOOP\n#PROCESS\n" 8 9 1
    -- "stretch over 4,096: lowest process number, from 1, in place of a line": 4,095 and 4,096 are accepted
    ∷ gives "#LOOP 2047\n/A\n#END" 4095 "#LOOP 2047\r\n/A\r\n#END\r\n"
    ∷ gives "#NOP\n#LOOP 2047\n/A\n#END" 4096 "#NOP\r\n#LOOP 2047\r\n/A\r\n#END\r\n"
    ∷ fails "#LOOP 2048\n/A\n#END" 11 1 0
    ∷ fails "#LOOP\n#WAIT CTSON\n#END" 11 1 0
    ∷ fails "#NOP\n#PROCESS\n#LOOP\n#END\n#PROCESS\n#LOOP\n#END" 11 2 0
    ∷ []

pub agree : All examples
unfolding printed
agree = (refl, (refl, (refl, (refl, (refl, (refl, (refl, (refl, (refl, (refl, (refl, (refl, (refl, (refl, (refl, (refl, (refl, (refl, (refl, (refl, (refl, (refl, (refl, (refl, (refl, (refl, (refl, (refl, (refl, (refl, (refl, (refl, (refl, (refl, (refl, (refl, (refl, (refl, (refl, (refl, (refl, (refl, (refl, (refl, (refl, (refl, (refl, (refl, (refl, (refl, (refl, (refl, (refl, (refl, (refl, (refl, (refl, (refl, (refl, (refl, (refl, (refl, (refl, (refl, (refl, (refl, (refl, (refl, (refl, (refl, (refl, (refl, (refl, (refl, (refl, (refl, (refl, (refl, (refl, (refl, (refl, (refl, (refl, (refl, (refl, (refl, (refl, (refl, (refl, (refl, (refl, (refl, (refl, (refl, (refl, (refl, (refl, (refl, (refl, (refl, (refl, (refl, (refl, (refl, (refl, (refl, (refl, (refl, (refl, (refl, (refl, (refl, (refl, (refl, (refl, (refl, (refl, (refl, (refl, (refl, (refl, (refl, (refl, (refl, (refl, (refl, (refl, (refl, (refl, (refl, (refl, (refl, (refl, (refl, (refl, (refl, (refl, (refl, (refl, (refl, (refl, (refl, (refl, (refl, (refl, tt)))))))))))))))))))))))))))))))))))))))))))))))))))))))))))))))))))))))))))))))))))))))))))))))))))))))))))))))))))))))))))))))))))))))))))))))))
