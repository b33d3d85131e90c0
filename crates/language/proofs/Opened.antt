-- What a computed case opens: every definition that a text goes through, under one name, `printed`. Assumes nothing.
use mathlib.Core.List.{List}
use Prim.Native.Nat.{ℕ}
use Rattle.reader.specs.Bytes.{is_blank, digit_of, same}
use Rattle.words.specs.Words.{skip, blanks, word_of, word_length, after_word, before_end, trim_end, argument}
use Rattle.numbers.specs.Number.{digits_ended, number_go, number_at, number_place, second_of, pair_of}
use Rattle.hex_data.specs.Hex as hex
use Rattle.hex_data.specs.Hex.{said_place, byte_place, step_of, hex_go, hex_at, hex_second, hex_byte_of, hex_byte_at}
use Rattle.writer.specs.Hex.{capital, hex_text}
use Rattle.writer.specs.Put.{fixed, width_go, width_of, decimal, two_digits}
use Rattle.figures.specs.Flat as flat
use Rattle.figures.specs.Flat.{fragments}
use Rattle.figures.specs.Figures.{join, capped, again, looped, figures}
use Rattle.language.specs.Lines.{drop_cr, in_front, raw_lines, each_line, lines_of}
use Rattle.language.specs.Clock.{within, value_before, fill, from, clock_of, in_twos, clock_letter, clock_text}
use Rattle.language.specs.Script.{default, in_first, processes, shape, data_of}
use Rattle.language.specs.Meaning.{bare, number_says, number, loop_of, byte_of, time_in, time_by, time_of, clock_says, marked_data, data_says, send_says, omit_says, rts_of, is_sign, signs, log_of, encode_hex, encode_byte, encode_of, stopbits_of, is_capital, raised, raise, extension, lfext_of, ex_in, lookup, signal, waits, wait_of, names, named, meaning}
use Rattle.language.specs.Column.{faultless, alike, further, number_taken, loop_taken, unit_taken, time_taken, clock_taken, rts_taken, in_taken, letters_taken, lfext_taken, in_word, hex_taken, marked_taken, encode_taken, signs_taken, log_taken, behind_blanks, taken_by, named_taken, waits_behind, names_behind, line_taken, column_of, column_in}
use Rattle.language.specs.Stretch.{mark_of, stretch_of, largest_of, largest}
use Rattle.language.specs.Draft.{Result, accepted, refused, start, count_line, with_settings, with_item, nest, take_nested, take_statement, with_next, with_first, beginning, take_process, take_omit, take_meaning, take_counted, is_comment, take_line, go_on, stretched, finished, fold, result_of}
use Rattle.language.specs.Listing.{is_plain, in_hex, last_in_one, short_hex, data_text, count_text, time_text, on_text, signal_text, log_text, line_for, item_line, item_lines, body_lines, encode_lines, setting_lines, listed_lines, with_line_ends, listing}
use Rattle.language.specs.Answer.{fault_number, script_from}

-- what the program prints: the listing, with the stretch beside it; or the number of the refusal, the line and the column
pub data Printed : Type 0 where
  lists : ℕ → List ℕ → Printed
  refuses : ℕ → ℕ → ℕ → Printed

unfoldable pub printed_by : Result → Printed
unfolding listing largest
printed_by (accepted s) = lists (largest s.body) (listing s)
printed_by (refused f row column) = refuses (fault_number f) row column

unfoldable pub printed : List ℕ → Printed
unfolding is_blank digit_of same skip blanks word_of word_length after_word before_end trim_end argument digits_ended number_go number_at second_of pair_of hex.byte_before step_of hex_go hex_at hex_second hex_byte_of hex_byte_at capital hex_text fixed width_go width_of decimal two_digits flat.mark_before fragments join capped again looped figures drop_cr in_front raw_lines each_line lines_of within value_before fill from clock_of in_twos clock_letter clock_text default in_first processes shape data_of bare number_says number loop_of byte_of time_in time_by time_of clock_says marked_data data_says send_says omit_says rts_of is_sign signs log_of encode_hex encode_byte encode_of stopbits_of is_capital raised raise extension lfext_of ex_in lookup signal waits wait_of names named meaning faultless number_place byte_place said_place alike further number_taken loop_taken unit_taken time_taken clock_taken rts_taken in_taken letters_taken lfext_taken in_word hex_taken marked_taken encode_taken signs_taken log_taken behind_blanks taken_by named_taken waits_behind names_behind line_taken column_of column_in mark_of stretch_of largest_of largest start count_line with_settings with_item nest take_nested take_statement with_next with_first beginning take_process take_omit take_meaning take_counted is_comment take_line go_on stretched finished fold result_of is_plain in_hex last_in_one short_hex data_text count_text time_text on_text signal_text log_text line_for item_line item_lines body_lines encode_lines setting_lines listed_lines with_line_ends listing fault_number script_from printed_by
printed s = printed_by (script_from s)
