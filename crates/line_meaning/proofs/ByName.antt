-- The names and the second words, one law for each way on of the code that parts them. Assumes nothing.
use Prim.Native.Nat.{ℕ, ◌<◌}
use mathlib.Core.Path.{◌≡◌, refl, sym, ap, ◌∙◌}
use mathlib.Core.Bool.{Bool, true, false, not}
use mathlib.Core.List.{List, [], ◌∷◌}
use lib.Dec.{ltb, eqb}
use lib.ListN.{length, get_or}
use borrow.Author.Tests.{lt-ltb, eq-eqb, ne_eqb}
use Rattle.reader.specs.Ascii.{ascii}
use Rattle.reader.specs.Bytes.{all, same}
use Rattle.words.specs.Words.{skip, argument, word_of, after_word}
use Rattle.language.specs.declared.TextFault.{TextFault}
use Rattle.language.specs.declared.TextFault.TheVariants.{NoSuchName}
use Rattle.std.specs.Prelude.{Result, Ok}
use Rattle.language.specs.Script.{Meaning, fault, data_of}
use Rattle.language.specs.Clock.{clock_of}
use Rattle.language.specs.Meaning.{entry, lookup, bare, signal, waits, names, named, loop_of, wait_of, time_of, byte_of, data_says, marked_data, log_of, encode_of, stopbits_of, ex_in, omit_says, lfext_of}
use Rattle.line_values.specs.declared.Line.{Line}
use Rattle.line_values.specs.Inside.Line.{line_from, data_from}
use Rattle.line_values.specs.Inside.Bare.{bare_line}
use Rattle.line_meaning.specs.Inside.Reading.{ReadsLine}
use Rattle.line_meaning.specs.Inside.Names.{only, byte_is, length_is, names_with, settings_long, waits_long}
use Rattle.line_meaning.proofs.NameTables.{is_it, none_named, parted, bare_shown}
use Rattle.line_meaning.proofs.WithoutData.{Not, none_of}
use Rattle.line_meaning.proofs.Telling.{tells_as, quiet}
use Rattle.line_meaning.proofs.Dataless.{Dataless, lookup_quiet, bare_quiet, clock_quiet, rts_quiet, ex_quiet}

module _ (w rest : List ℕ) where
  -- ---- the second words of four bytes

  pub time_named : {t : Bool} → t ≡ same w (ascii "TIME") → t ≡ true → lookup (waits_long 4) w rest ≡ time_of (argument rest)
  unfolding waits_long only waits lookup same
  time_named p e = is_it (waits_long 4) w (ascii "TIME") rest p e

  pub data_named : {t : Bool} → t ≡ same w (ascii "DATA") → t ≡ true → lookup (waits_long 4) w rest ≡ data_says (marked_data (skip rest))
  unfolding waits_long only waits lookup same
  data_named p e = is_it (waits_long 4) w (ascii "DATA") rest p e

  pub byte_named : {t : Bool} → t ≡ same w (ascii "BYTE") → t ≡ true → lookup (waits_long 4) w rest ≡ byte_of (argument rest)
  unfolding waits_long only waits lookup same
  byte_named p e = is_it (waits_long 4) w (ascii "BYTE") rest p e

  pub none_of_four : {t u v : Bool} → t ≡ same w (ascii "TIME") → t ≡ false → u ≡ same w (ascii "DATA") → u ≡ false → v ≡ same w (ascii "BYTE") → v ≡ false
      → lookup (waits_long 4) w rest ≡ fault NoSuchName
  unfolding waits_long only waits lookup
  none_of_four p e q f r g =
      none_named (waits_long 4) w rest (sym p ∙ e, (sym q ∙ f, (sym r ∙ g, tt)))

  -- ---- all second words, parted by their length

  pub so_long : (n : ℕ) → length w ≡ n → lookup waits w rest ≡ lookup (waits_long n) w rest
  unfolding waits_long
  so_long n e = parted (length_is n) waits w rest (eq-eqb (length w) n e)

  pub no_second_word : Not (length w) 4 → Not (length w) 5 → Not (length w) 6 → lookup waits w rest ≡ fault NoSuchName
  unfolding only waits lookup
  no_second_word p q r =
      parted (λ v. all (λ n. not (eqb (length v) n)) (4 ∷ 5 ∷ 6 ∷ [])) waits w rest
      (rw (ne_eqb (length w) 4 p, ne_eqb (length w) 5 q, ne_eqb (length w) 6 r))

  pub five_quiet : Dataless (lookup (waits_long 5) w rest)
  unfolding waits_long only waits signal data_from data_of
  five_quiet =
      lookup_quiet (waits_long 5)
      (λ l. clock_quiet (clock_of (argument l)), (bare_quiet _ refl, (bare_quiet _ refl, (bare_quiet _ refl, (bare_quiet _ refl, (bare_quiet _ refl, tt)))))) w rest

  pub six_quiet : Dataless (lookup (waits_long 6) w rest)
  unfolding waits_long only waits signal data_from data_of
  six_quiet =
      lookup_quiet (waits_long 6)
      (bare_quiet _ refl, (bare_quiet _ refl, (bare_quiet _ refl, (bare_quiet _ refl, (bare_quiet _ refl, tt))))) w rest

  -- ---- the names, parted by the byte after `#`

  pub second : (b : ℕ) → get_or w 1 0 ≡ b → lookup names w rest ≡ lookup (names_with b) w rest
  unfolding names_with
  second b e = parted (byte_is 1 b) names w rest (eq-eqb (get_or w 1 0) b e)

  -- a byte with one name, which has nothing after it
  pub bare_named : (b : ℕ) (m : Meaning) (name : List ℕ) {told : Line} {line : Result Line TextFault} {d : List ℕ} → names_with b ≡ entry name (bare m) ∷ [] → get_or w 1 0 ≡ b
      → Ok told ≡ line_from m → Dataless m → line ≡ bare_line w name rest told → ReadsLine (lookup names w rest) line d d
  bare_named b m name s e p q r =
      let f : lookup names w rest ≡ lookup (entry name (bare m) ∷ []) w rest = second b e ∙ ap (λ es. lookup es w rest) s in
      tells_as f (quiet (r ∙ bare_shown w name rest m p) (lookup_quiet _ (bare_quiet m q, tt) w rest))

  pub too_short : length w < 2 → lookup names w rest ≡ fault NoSuchName
  unfolding only names lookup
  too_short h = parted (λ v. ltb (length v) 2) names w rest (lt-ltb (length w) 2 h)

  pub no_such_name : (((((((Unit {0} × Not (get_or w 1 0) 76) × Not (get_or w 1 0) 69) × Not (get_or w 1 0) 87) × Not (get_or w 1 0) 82) × Not (get_or w 1 0) 70) × Not (get_or w 1 0) 80)
      × Not (get_or w 1 0) 78) × Not (get_or w 1 0) 102 → lookup names w rest ≡ fault NoSuchName
  unfolding only names lookup
  no_such_name n =
      parted (none_of 1 (76 ∷ 69 ∷ 87 ∷ 82 ∷ 70 ∷ 80 ∷ 78 ∷ 102 ∷ [])) names w rest
      (rw (ne_eqb (get_or w 1 0) 76 n.0.0.0.0.0.0.0.1, ne_eqb (get_or w 1 0) 69 n.0.0.0.0.0.0.1, ne_eqb (get_or w 1 0) 87 n.0.0.0.0.0.1, ne_eqb (get_or w 1 0) 82 n.0.0.0.0.1, ne_eqb (get_or w 1 0) 70 n.0.0.0.1, ne_eqb (get_or w 1 0) 80 n.0.0.1, ne_eqb (get_or w 1 0) 78 n.0.1, ne_eqb (get_or w 1 0) 102 n.1))

  -- ---- LOOP and LOG

  pub loop_named : {t : Bool} → t ≡ same w (ascii "#LOOP") → t ≡ true → lookup (names_with 76) w rest ≡ loop_of (argument rest)
  unfolding names_with only names lookup same
  loop_named p e = is_it (names_with 76) w (ascii "#LOOP") rest p e

  pub log_named : {t : Bool} → t ≡ same w (ascii "#LOG") → t ≡ true → lookup (names_with 76) w rest ≡ log_of rest
  unfolding names_with only names lookup same
  log_named p e = is_it (names_with 76) w (ascii "#LOG") rest p e

  pub neither_l : {t u : Bool} → t ≡ same w (ascii "#LOOP") → t ≡ false → u ≡ same w (ascii "#LOG") → u ≡ false → lookup (names_with 76) w rest ≡ fault NoSuchName
  unfolding names_with only names lookup
  neither_l p e q f = none_named (names_with 76) w rest (sym p ∙ e, (sym q ∙ f, tt))

  -- ---- WAIT

  pub wait_named : {t : Bool} → t ≡ same w (ascii "#WAIT") → t ≡ true → lookup (names_with 87) w rest ≡ wait_of (skip rest)
  unfolding names_with only names lookup same
  wait_named p e = is_it (names_with 87) w (ascii "#WAIT") rest p e

  pub wait_not : {t : Bool} → t ≡ same w (ascii "#WAIT") → t ≡ false → lookup (names_with 87) w rest ≡ fault NoSuchName
  unfolding names_with only names lookup
  wait_not p e = none_named (names_with 87) w rest (sym p ∙ e, tt)

  -- ---- RTS and RESUME, PAUSE and PROCESS: no data

  pub r_quiet : Dataless (lookup (names_with 82) w rest)
  unfolding names_with only names data_from data_of
  r_quiet = lookup_quiet (names_with 82) (λ l. rts_quiet (argument l), (bare_quiet _ refl, tt)) w rest

  pub p_quiet : Dataless (lookup (names_with 80) w rest)
  unfolding names_with only names data_from data_of
  p_quiet = lookup_quiet (names_with 80) (bare_quiet _ refl, (bare_quiet _ refl, tt)) w rest

  -- ---- the f: lines

  pub ex_long : length w ≡ 6 → lookup (names_with 102) w rest ≡ lookup (settings_long 6) w rest
  unfolding settings_long
  ex_long e = parted (length_is 6) (names_with 102) w rest (eq-eqb (length w) 6 e)

  pub ex_dataless : Dataless (lookup (settings_long 6) w rest)
  unfolding settings_long names_with only names
  ex_dataless =
      let q : (l : List ℕ) → Dataless (ex_in (argument l)) = λ l. ex_quiet (argument l) in
      lookup_quiet (settings_long 6) (q, (q, (q, (q, tt)))) w rest

  pub omit_named : {t : Bool} → t ≡ same w (ascii "#f:OMIT") → t ≡ true → lookup (names_with 102) w rest ≡ omit_says (marked_data (skip rest))
  unfolding names_with only names lookup same
  omit_named p e = is_it (names_with 102) w (ascii "#f:OMIT") rest p e

  pub lfext_named : {t : Bool} → t ≡ same w (ascii "#f:LFEXT") → t ≡ true → lookup (names_with 102) w rest ≡ lfext_of (argument rest)
  unfolding names_with only names lookup same
  lfext_named p e = is_it (names_with 102) w (ascii "#f:LFEXT") rest p e

  pub encode_named : {t : Bool} → t ≡ same w (ascii "#f:ENCODE") → t ≡ true → lookup (names_with 102) w rest ≡ encode_of (argument rest)
  unfolding names_with only names lookup same
  encode_named p e = is_it (names_with 102) w (ascii "#f:ENCODE") rest p e

  pub stopbits_named : {t : Bool} → t ≡ same w (ascii "#f:STOPBITS") → t ≡ true → lookup (names_with 102) w rest ≡ stopbits_of (argument rest)
  unfolding names_with only names lookup same
  stopbits_named p e = is_it (names_with 102) w (ascii "#f:STOPBITS") rest p e

  pub no_setting : {t u v x : Bool} → Not (length w) 6 → t ≡ same w (ascii "#f:OMIT") → t ≡ false → u ≡ same w (ascii "#f:LFEXT") → u ≡ false
      → v ≡ same w (ascii "#f:ENCODE") → v ≡ false → x ≡ same w (ascii "#f:STOPBITS") → x ≡ false → lookup (names_with 102) w rest ≡ fault NoSuchName
  unfolding names_with only names lookup
  no_setting n p e q f r g s h =
      parted (λ v. not (length_is 6 v)) (names_with 102) w rest (rw (ne_eqb (length w) 6 n))
      ∙ none_named (only (λ v. not (length_is 6 v)) (names_with 102)) w rest (sym r ∙ g, (sym s ∙ h, (sym p ∙ e, (sym q ∙ f, tt))))

-- ---- the word and what follows it, as the code has cut them

pub first_name : (s : List ℕ) {word rest : List ℕ} → word ≡ word_of s → rest ≡ after_word s → named s ≡ lookup names word rest
unfolding named
first_name s p q = rw (p, q)

pub second_word : (s : List ℕ) {line word rest : List ℕ} → line ≡ skip s → word ≡ word_of line → rest ≡ after_word line → wait_of (skip s) ≡ lookup waits word rest
unfolding wait_of
second_word s l p q = rw (p, q, l)
