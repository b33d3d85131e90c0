-- A listing is within its bounds as a text: each line of it is fine, and it is at most 13,670 bytes long. That is the best bound, as
-- Longest shows. Assumes nothing.
use Prim.Native.Nat.{ℕ, ◌+◌, ◌*◌, ◌≤◌}
use mathlib.Core.Path.{◌≡◌, refl}
use mathlib.Core.Bool.{Bool, true, false, not}
use mathlib.Core.List.{List, [], ◌∷◌, ◌++◌}
use native.Mathlib.Omega.{arith}
use lib.ListN.{length, length-append}
use Rattle.reader.specs.Ascii.{ascii}
use Rattle.reader.specs.Bytes.{all, same}
use Rattle.reader.proofs.Tests.{both_left, both_right, all_append}
use Rattle.language.specs.Limits.{line_limit, listing_limit}
use Rattle.language.specs.Script.{Statement, Encode, unset, byte, Settings, Item, does, next, Script, data_of}
use Rattle.language.specs.Listing.{item_line, item_lines, body_lines, line_if, encode_lines, setting_lines, listed_lines, with_line_ends, listing}
use Rattle.language.specs.Right.{is_byte, in_line, right, encode_right, all_right, data_in}
use Rattle.language.proofs.Bytes.{line_bytes}
use Rattle.language.proofs.Good.{RightSettings, Good}
use Rattle.language.proofs.Room.{Fine, fine}
use Rattle.language.proofs.Cutting.{Each, AllInLine}
use Rattle.language.proofs.Settings.{process_fine, encode_fine, stopbits_fine, omit_fine, lfext_fine}

-- fine lines, with at most so many 57ths of a byte over 21 bytes for each
data FineLines : List (List ℕ) → ℕ → Type 0 where
  none : {w : ℕ} → FineLines [] w
  more : {l : List ℕ} {ls : List (List ℕ)} {u v w : ℕ} → Fine u l → FineLines ls v → u + v ≤ w → FineLines (l ∷ ls) w

fine_each : (P : List ℕ → Type 0) → ((u : ℕ) (l : List ℕ) → Fine u l → P l) → {ls : List (List ℕ)} {u : ℕ} → FineLines ls u → Each P ls
fine_each P f none = tt
fine_each P f (more {l = l} {u = u} h r k) = (f u l h, fine_each P f r)

fine_bytes : {ls : List (List ℕ)} {u : ℕ} → FineLines ls u → all is_byte (with_line_ends ls) ≡ true
unfolding with_line_ends is_byte
fine_bytes none = refl
fine_bytes (more {l = l} {ls = ls} f r h) = all_append is_byte l (13 ∷ 10 ∷ with_line_ends ls) (line_bytes l f.whole) (fine_bytes r)

fine_size : {ls : List (List ℕ)} {u : ℕ} → FineLines ls u → length (with_line_ends ls) * 57 ≤ length ls * 1311 + u
unfolding with_line_ends
fine_size none = omega arith
fine_size (more {l = l} {ls = ls} f r h) = omega (arith, f.small, fine_size r, length-append l (13 ∷ 10 ∷ with_line_ends ls))

fine_up : {ls : List (List ℕ)} {u w : ℕ} → FineLines ls u → u ≤ w → FineLines ls w
fine_up none k = none
fine_up {w = w} (more f r h) k = more {w = w} f r (omega arith)

fine_append : {a b : List (List ℕ)} {u v w : ℕ} → FineLines a u → FineLines b v → u + v ≤ w → FineLines (a ++ b) w
fine_append none q k = fine_up q (omega arith)
fine_append {v = v} {w = w} (more {v = t} f r h) q k = more {w = w} f (fine_append {w = t + v} r q (omega arith)) (omega arith)

one : {l : List ℕ} {u : ℕ} → Fine u l → FineLines (l ∷ []) u
one {u = u} f = more {v = 0} {w = u} f none (omega arith)

items_fine : (is : List Item) → all_right is ≡ true → FineLines (item_lines is) (data_in is * 105)
unfolding all_right item_lines item_line data_in
items_fine [] h = none
items_fine (does s ∷ is) h =
    more {w = (length (data_of s) + data_in is) * 105} (fine s (both_left (right s) (all_right is) h)) (items_fine is (both_right (right s) (all_right is) h)) (omega arith)
items_fine (next ∷ is) h = more {w = data_in is * 105} process_fine (items_fine is h) (omega arith)

body_fine : (is : List Item) → all_right is ≡ true → FineLines (body_lines is) (data_in is * 105)
unfolding body_lines
body_fine [] h = none
body_fine (does s ∷ is) h = items_fine (does s ∷ is) h
body_fine (next ∷ is) h = more {w = data_in (next ∷ is) * 105} process_fine (items_fine (next ∷ is) h) (omega arith)

when_fine : (t : Bool) (l : List ℕ) {u : ℕ} → Fine u l → FineLines (line_if t l) u
when_fine true l f = one f
when_fine false l f = none

encode_lines_fine : (e : Encode) → encode_right e ≡ true → FineLines (encode_lines e) 0
unfolding encode_lines encode_right
encode_lines_fine unset h = none
encode_lines_fine (byte b) h = one (encode_fine b h)

settings_fine : (s : Settings) → RightSettings s → FineLines (setting_lines s) 456
unfolding setting_lines
settings_fine s r =
    fine_append {u = 0} {v = 456} (encode_lines_fine s.encode r.encode)
    (fine_append {u = 0} {v = 456} (when_fine s.two_stopbits _ stopbits_fine)
    (fine_append {u = 456} {v = 0} (when_fine (not (same s.omit [])) _ (omit_fine s.omit r.omit r.omitted))
    (when_fine (not (same s.lfext (ascii "LOG"))) _ (lfext_fine s.lfext r.lfext)) (omega arith)) (omega arith)) (omega arith)

module _ (stretch : List Statement → ℕ) where
  listed_fine : (s : Script) → Good stretch s → FineLines (listed_lines s) (456 + data_in s.body * 105)
  unfolding listed_lines
  listed_fine s g = fine_append (settings_fine s.settings g.settings) (body_fine s.body g.rights) (omega arith)

  pub lines_whole : (s : Script) → Good stretch s → AllInLine (listed_lines s)
  lines_whole s g = fine_each (λ l. all in_line l ≡ true) (λ u l f. f.whole) (listed_fine s g)

  pub lines_fit : (s : Script) → Good stretch s → Each (λ l. length l ≤ line_limit) (listed_lines s)
  lines_fit s g = fine_each (λ l. length l ≤ line_limit) (λ u l f. f.fits) (listed_fine s g)

  pub listing_size : (s : Script) → Good stretch s → length (listing s) ≤ listing_limit
  unfolding listing
  listing_size s g = omega (arith, fine_size (listed_fine s g), g.lines, g.bytes)

  pub listing_bytes : (s : Script) → Good stretch s → all is_byte (listing s) ≡ true
  unfolding listing
  listing_bytes s g = fine_bytes (listed_fine s g)
