-- What scripts are made of: statements, settings, and the body as one list.
use Rattle.std.specs.Prelude.{ℕ, Bool, false, List, [], ◌∷◌}
use Rattle.reader.specs.Ascii.{ascii}
use Rattle.language.specs.declared.TextFault.{TextFault}

-- the fourteen statements of the section "Lines"
pub data Statement : Type 0 where
  send : List ℕ → Statement  -- the bytes
  loop : ℕ → Statement  -- how often, 0 is forever
  end : Statement
  wait_time : ℕ → Statement  -- milliseconds
  wait_data : List ℕ → Statement  -- the bytes of this line
  wait_byte : ℕ → Statement
  wait_clock : List ℕ → Statement  -- the values of the fixed units
  wait_signal : ℕ → Bool → Statement  -- 0 CTS, 1 to 4 EX; the level
  rts : Bool → Statement
  log : List ℕ → Statement  -- the text as written
  fchange pause resume nop : Statement

-- what a statement does to the open loops
pub data Shape : Type 0 where
  opens closes stays : Shape

-- LOOP opens, END closes, no other statement does either
unfoldable pub shape : Statement → Shape
shape (send bs) = stays
shape (loop n) = opens
shape end = closes
shape (wait_time n) = stays
shape (wait_data bs) = stays
shape (wait_byte n) = stays
shape (wait_clock vs) = stays
shape (wait_signal n on) = stays
shape (rts on) = stays
shape (log text) = stays
shape fchange = stays
shape pause = stays
shape resume = stays
shape nop = stays

-- "data of data lines, WAIT DATA and LOG (as written)"
unfoldable pub data_of : Statement → List ℕ
data_of (send bs) = bs
data_of (loop n) = []
data_of end = []
data_of (wait_time n) = []
data_of (wait_data bs) = bs
data_of (wait_byte n) = []
data_of (wait_clock vs) = []
data_of (wait_signal n on) = []
data_of (rts on) = []
data_of (log text) = text
data_of fchange = []
data_of pause = []
data_of resume = []
data_of nop = []

-- what a line means: a comment, a blank line, a PROCESS line, a statement, an f: line, or a fault of its own
pub data Meaning : Type 0 where
  comment blank process set_ex : Meaning
  says : Statement → Meaning
  set_encode : ℕ → Meaning
  set_stopbits : Bool → Meaning  -- two?
  set_omit : List ℕ → Meaning
  set_lfext : List ℕ → Meaning
  fault : TextFault → Meaning

-- a byte that may not be set
pub data Encode : Type 0 where
  unset : Encode
  byte : ℕ → Encode

-- what the f: lines set
pub record Settings : Type 0 where
  pub encode : Encode
  pub two_stopbits : Bool
  pub omit : List ℕ
  pub lfext : List ℕ

-- settings by their parts
abbrev pub settings : Encode → Bool → List ℕ → List ℕ → Settings
settings encode two omit lfext = record { encode = encode; two_stopbits = two; omit = omit; lfext = lfext }

-- with no f: lines: no ENCODE byte, one stop bit, nothing omitted, LOG
unfoldable pub default : Settings
default = settings unset false [] (ascii "LOG")

-- the body of a script is one list: an item for each written statement line, and one where each further process begins
pub data Item : Type 0 where
  does : Statement → Item
  next : Item

-- a script: its settings and its body
pub record Script : Type 0 where
  pub settings : Settings
  pub body : List Item

-- a statement in front of the first process
unfoldable pub in_first : Statement → List (List Statement) → List (List Statement)
in_first s [] = (s ∷ []) ∷ []
in_first s (p ∷ ps) = (s ∷ p) ∷ ps

-- the processes: always one at least
unfoldable pub processes : List Item → List (List Statement)
processes [] = [] ∷ []
processes (does s ∷ is) = in_first s (processes is)
processes (next ∷ is) = [] ∷ processes is
