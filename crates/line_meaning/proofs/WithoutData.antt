-- The names and the second words of lines without data, one law for each way on of the code that parts them. Assumes nothing.
use Prim.Native.Nat.{ℕ, ◌<◌}
use mathlib.Core.Path.{◌≡◌, refl, sym, ap, ◌∙◌}
use mathlib.Core.Bool.{Bool, true, false, not}
use mathlib.Core.List.{List, [], ◌∷◌}
use lib.Dec.{ltb, eqb}
use lib.ListN.{length, get_or}
use borrow.Author.Tests.{lt-ltb, eq-eqb, ne_eqb}
use Rattle.reader.specs.Ascii.{ascii}
use Rattle.reader.specs.Bytes.{all, same}
use Rattle.words.specs.Words.{argument}
use Rattle.language.specs.declared.TextFault.{TextFault}
use Rattle.language.specs.declared.TextFault.TheVariants.{NoSuchName}
use Rattle.std.specs.Prelude.{Result, Ok}
use Rattle.language.specs.Script.{process, says, wait_signal, pause, resume, fault}
use Rattle.language.specs.Table.{cell_for}
use Rattle.language.specs.Clock.{clock_of}
use Rattle.language.specs.Meaning.{entry, lookup, bare, signal, waits, names, clock_says, rts_of, ex_in}
use Rattle.line_values.specs.declared.Line.{Line}
use Rattle.line_values.specs.Inside.Line.{line_from}
use Rattle.line_values.specs.Inside.Bare.{bare_line}
use Rattle.line_meaning.specs.Inside.Signal.{level_line}
use Rattle.line_meaning.specs.Inside.Names.{only, byte_is, length_is, names_with, settings_long, waits_long}
use Rattle.line_meaning.proofs.NameTables.{is_it, is_not, none_named, parted, bare_shown}

-- the byte at a place is none of these
abbrev pub none_of : ℕ → List ℕ → List ℕ → Bool
none_of at bs w = all (λ b. not (eqb (get_or w at 0) b)) bs

-- a byte or a length that is another, as a `match` or a test tells it
abbrev pub Not : ℕ → ℕ → Type 0
Not b k = b ≡ k → ⊥

module _ (w rest : List ℕ) where
  -- ---- those of five and six, parted by their third byte

  pub too_short : (n : ℕ) → only (λ v. ltb (length v) 3) (waits_long n) ≡ [] → length w < 3 → lookup (waits_long n) w rest ≡ fault NoSuchName
  unfolding lookup
  too_short n e h = parted (λ v. ltb (length v) 3) (waits_long n) w rest (lt-ltb (length w) 3 h) ∙ ap (λ es. lookup es w rest) e

  third : (n b : ℕ) → get_or w 2 0 ≡ b → lookup (waits_long n) w rest ≡ lookup (only (byte_is 2 b) (waits_long n)) w rest
  third n b e = parted (byte_is 2 b) (waits_long n) w rest (eq-eqb (get_or w 2 0) b e)

  pub signalled : (n b k : ℕ) (on : Bool) (name : List ℕ) {told : Line} {line : Result Line TextFault} → only (byte_is 2 b) (waits_long n) ≡ entry name (signal k on) ∷ []
      → get_or w 2 0 ≡ b → told ≡ level_line k on → line ≡ bare_line w name rest told → line ≡ line_from (lookup (waits_long n) w rest)
  unfolding level_line signal
  signalled n b k on name s e p q =
      q
      ∙ bare_shown w name rest (says (wait_signal k on)) (ap Ok p ∙ unfold line_from cell_for in refl)
      ∙ ap line_from (sym (third n b e ∙ ap (λ es. lookup es w rest) s))

  pub clock_named : {t : Bool} → t ≡ same w (ascii "CLOCK") → t ≡ true → lookup (waits_long 5) w rest ≡ clock_says (clock_of (argument rest))
  unfolding waits_long only waits lookup same
  clock_named p e = is_it (waits_long 5) w (ascii "CLOCK") rest p e

  pub clock_not : {t : Bool} → get_or w 2 0 ≡ 79 → t ≡ same w (ascii "CLOCK") → t ≡ false → lookup (waits_long 5) w rest ≡ fault NoSuchName
  unfolding waits_long only waits lookup
  clock_not e p f = third 5 79 e ∙ none_named (only (byte_is 2 79) (waits_long 5)) w rest (sym p ∙ f, tt)

  pub none_of_five : (((((Unit {0} × Not (get_or w 2 0) 79) × Not (get_or w 2 0) 83) × Not (get_or w 2 0) 49) × Not (get_or w 2 0) 50) × Not (get_or w 2 0) 51) × Not (get_or w 2 0) 52
      → lookup (waits_long 5) w rest ≡ fault NoSuchName
  unfolding waits_long only waits lookup
  none_of_five n =
      parted (none_of 2 (79 ∷ 83 ∷ 49 ∷ 50 ∷ 51 ∷ 52 ∷ [])) (waits_long 5) w rest
      (rw (ne_eqb (get_or w 2 0) 79 n.0.0.0.0.0.1, ne_eqb (get_or w 2 0) 83 n.0.0.0.0.1, ne_eqb (get_or w 2 0) 49 n.0.0.0.1, ne_eqb (get_or w 2 0) 50 n.0.0.1, ne_eqb (get_or w 2 0) 51 n.0.1, ne_eqb (get_or w 2 0) 52 n.1))

  pub none_of_six : ((((Unit {0} × Not (get_or w 2 0) 83) × Not (get_or w 2 0) 49) × Not (get_or w 2 0) 50) × Not (get_or w 2 0) 51) × Not (get_or w 2 0) 52
      → lookup (waits_long 6) w rest ≡ fault NoSuchName
  unfolding waits_long only waits lookup
  none_of_six n =
      parted (none_of 2 (83 ∷ 49 ∷ 50 ∷ 51 ∷ 52 ∷ [])) (waits_long 6) w rest
      (rw (ne_eqb (get_or w 2 0) 83 n.0.0.0.0.1, ne_eqb (get_or w 2 0) 49 n.0.0.0.1, ne_eqb (get_or w 2 0) 50 n.0.0.1, ne_eqb (get_or w 2 0) 51 n.0.1, ne_eqb (get_or w 2 0) 52 n.1))

  -- ---- RTS and RESUME, PAUSE and PROCESS

  pub rts_named : {t : Bool} → t ≡ same w (ascii "#RTS") → t ≡ true → lookup (names_with 82) w rest ≡ rts_of (argument rest)
  unfolding names_with only names lookup same
  rts_named p e = is_it (names_with 82) w (ascii "#RTS") rest p e

  pub rts_not : {t : Bool} {told : Line} {line : Result Line TextFault} → t ≡ same w (ascii "#RTS") → t ≡ false → Ok told ≡ line_from (says resume)
      → line ≡ bare_line w (ascii "#RESUME") rest told → line ≡ line_from (lookup (names_with 82) w rest)
  unfolding names_with only names lookup
  rts_not p e q r = r ∙ bare_shown w (ascii "#RESUME") rest (says resume) q ∙ ap line_from (sym (is_not (ascii "#RTS") (λ l. rts_of (argument l)) (entry (ascii "#RESUME") (bare (says resume)) ∷ []) w rest p e))

  pub pause_named : {told : Line} {line : Result Line TextFault} → length w ≡ 6 → Ok told ≡ line_from (says pause) → line ≡ bare_line w (ascii "#PAUSE") rest told
      → line ≡ line_from (lookup (names_with 80) w rest)
  unfolding names_with only names lookup
  pause_named e q r = r ∙ bare_shown w (ascii "#PAUSE") rest (says pause) q ∙ ap line_from (sym (parted (length_is 6) (names_with 80) w rest (eq-eqb (length w) 6 e)))

  pub process_named : {told : Line} {line : Result Line TextFault} → Not (length w) 6 → Ok told ≡ line_from process → line ≡ bare_line w (ascii "#PROCESS") rest told
      → line ≡ line_from (lookup (names_with 80) w rest)
  unfolding names_with only names lookup
  process_named e q r =
      r
      ∙ bare_shown w (ascii "#PROCESS") rest process q
      ∙ ap line_from (sym (parted (λ v. not (length_is 6 v)) (names_with 80) w rest (rw (ne_eqb (length w) 6 e))))

  -- ---- EX1 to EX4

  pub ex_one : {t : Bool} → t ≡ same w (ascii "#f:EX1") → t ≡ true → lookup (settings_long 6) w rest ≡ ex_in (argument rest)
  unfolding settings_long names_with only names lookup same
  ex_one p e = is_it (settings_long 6) w (ascii "#f:EX1") rest p e

  pub ex_two : {t : Bool} → t ≡ same w (ascii "#f:EX2") → t ≡ true → lookup (settings_long 6) w rest ≡ ex_in (argument rest)
  unfolding settings_long names_with only names lookup same
  ex_two p e = is_it (settings_long 6) w (ascii "#f:EX2") rest p e

  pub ex_three : {t : Bool} → t ≡ same w (ascii "#f:EX3") → t ≡ true → lookup (settings_long 6) w rest ≡ ex_in (argument rest)
  unfolding settings_long names_with only names lookup same
  ex_three p e = is_it (settings_long 6) w (ascii "#f:EX3") rest p e

  pub ex_four : {t : Bool} → t ≡ same w (ascii "#f:EX4") → t ≡ true → lookup (settings_long 6) w rest ≡ ex_in (argument rest)
  unfolding settings_long names_with only names lookup same
  ex_four p e = is_it (settings_long 6) w (ascii "#f:EX4") rest p e

  pub no_ex : {t u v x : Bool} → t ≡ same w (ascii "#f:EX1") → t ≡ false → u ≡ same w (ascii "#f:EX2") → u ≡ false → v ≡ same w (ascii "#f:EX3") → v ≡ false
      → x ≡ same w (ascii "#f:EX4") → x ≡ false → lookup (settings_long 6) w rest ≡ fault NoSuchName
  unfolding settings_long names_with only names lookup
  no_ex p e q f r g s h =
      none_named (settings_long 6) w rest (sym p ∙ e, (sym q ∙ f, (sym r ∙ g, (sym s ∙ h, tt))))
