-- THE ROUND TRIP: the listing of a right script compiles to that script. Assumes nothing.
use Prim.Native.Nat.{ℕ, ◌+◌, ◌≤◌, ◌<◌}
use mathlib.Core.Path.{◌≡◌, refl, subst, ◌∙◌}
use mathlib.Core.Bool.{Bool, true, false, not}
use mathlib.Core.List.{List, [], ◌∷◌, ◌++◌, append_assoc}
use native.Mathlib.Omega.{arith}
use lib.Dec.{leb}
use lib.ListN.{length}
use borrow.Author.Tests.{le-leb}
use Rattle.figures.specs.Cap.{limit}
use Rattle.reader.specs.Ascii.{ascii}
use Rattle.reader.specs.Bytes.{all, same}
use Rattle.writer.specs.Hex.{hex_text}
use Rattle.reader.proofs.Tests.{both_left, both_right}
use Rattle.reader.proofs.Same.{same_is}
use Rattle.language.specs.Limits.{text_limit, lines_limit, data_limit, omit_limit, process_limit}
use Rattle.language.specs.Script.{Statement, set_encode, set_stopbits, set_omit, set_lfext, Encode, unset, byte, Settings, default, Item, does, next, Script, processes}
use Rattle.language.specs.Meaning.{extension}
use Rattle.language.specs.Listing.{line_for, item_line, item_lines, body_lines, line_if, encode_lines, setting_lines, listed_lines, with_line_ends, listing}
use Rattle.language.specs.Right.{is_byte, encode_right, all_right, data_in, nexts_in, nests, all_below}
use Rattle.language.specs.Draft.{Result, accepted, Draft, start, count_line, with_settings, with_first, take_omit, take_meaning, is_comment, stretched, finished, fold, result_of}
use Rattle.language.proofs.Settings.{encode_said, encode_fine, stopbits_said, stopbits_fine, omit_said, omit_fine, lfext_said, lfext_fine}
use Rattle.language.proofs.Cutting.{lines_joined}
use Rattle.language.proofs.Folding.{line_taken_lem, first_taken, items_length, Fits, step_does, fold_on, Done, goes_on_lem, items_taken}
use Rattle.language.proofs.Good.{Good}
use Rattle.language.proofs.Size.{lines_whole, listing_size}

-- before any statement or PROCESS line, with `c` lines counted
abbrev ready : ℕ → Settings → Draft
ready c s = record { counted = c; used = 0; loops = []; count = 1; begun = false; settings = s; body = [] }

record Room (is : List Item) (c : ℕ) : Type 0 where
  rights : all_right is ≡ true
  lines : c + length (body_lines is) ≤ lines_limit
  bytes : data_in is ≤ data_limit
  nested : nests is 0 ≡ true
  few : nexts_in is < process_limit

module _ (stretch : List Statement → ℕ) where
  body_taken : (is : List Item) (row c : ℕ) (s : Settings) → Room is c → fold stretch (body_lines is) row (ready c s) ≡ Done stretch s is
  unfolding body_lines item_lines item_line
  body_taken [] row c s r = unfold fold finished in refl
  body_taken (does x ∷ is) row c s r =
      let f : Fits (does x ∷ is) (ready c s) =
      record {
        rights = r.rights;
        lines = omega (arith, r.lines, items_length (does x ∷ is));
        bytes = omega (arith, r.bytes);
        nested = r.nested;
        few = omega (arith, r.few);
      }
      in
      let p = step_does x is row (ready c s) f in
      goes_on_lem stretch (line_for x) (does x) is (item_lines is) row (ready c s) p (items_taken stretch is (row + 1) p.leaves p.fits p.begun)
  body_taken (next ∷ is) row c s r =
      let st : Draft = with_first (count_line (ready c s)) in
      let k : c < lines_limit = omega (arith, r.lines) in
      let f : Fits (next ∷ is) st =
      unfold with_first count_line in
      record {
        rights = r.rights;
        lines = omega (arith, r.lines, items_length (next ∷ is));
        bytes = omega (arith, r.bytes);
        nested = r.nested;
        few = omega (arith, r.few);
      }
      in
      fold_on stretch (ascii "#PROCESS") (item_lines (next ∷ is)) row (ready c s) st (first_taken row (ready c s) k refl refl)
      ∙ unfold with_first count_line in items_taken stretch (next ∷ is) (row + 1) st f refl

  -- ---- the settings: each line that is listed is taken, and leaves the same to what follows

  abbrev opening : ℕ → Encode → Bool → List ℕ → List ℕ → Draft
  opening c e t o x = ready c (record { encode = e; two_stopbits = t; omit = o; lfext = x })

  -- the lines that follow lead to an answer, whatever the line's number is
  abbrev Leads : List (List ℕ) → (ℕ → Draft) → Result → Type 0
  Leads ls st a = (row c : ℕ) → c + length ls ≤ lines_limit → fold stretch ls row (st c) ≡ a

  encode_leads : (e : Encode) (ls : List (List ℕ)) (a : Result) → encode_right e ≡ true
      → Leads ls (λ c. opening c e false [] (ascii "LOG")) a → Leads (encode_lines e ++ ls) (λ c. opening c unset false [] (ascii "LOG")) a
  unfolding encode_lines encode_right take_meaning count_line with_settings is_comment
  encode_leads unset ls a h onward row c k = onward row c k
  encode_leads (byte b) ls a h onward row c k =
      fold_on stretch _ ls row (opening c unset false [] (ascii "LOG")) (opening (c + 1) (byte b) false [] (ascii "LOG"))
      (line_taken_lem row (opening c unset false [] (ascii "LOG")) _ (set_encode b) (encode_said b h) refl (encode_fine b h).fits (omega arith))
      ∙ onward (row + 1) (c + 1) (omega arith)

  stopbits_leads : (e : Encode) (t : Bool) (ls : List (List ℕ)) (a : Result)
      → Leads ls (λ c. opening c e t [] (ascii "LOG")) a → Leads (line_if t (ascii "#f:STOPBITS 2") ++ ls) (λ c. opening c e false [] (ascii "LOG")) a
  unfolding take_meaning count_line with_settings is_comment
  stopbits_leads e false ls a onward row c k = onward row c k
  stopbits_leads e true ls a onward row c k =
      fold_on stretch _ ls row (opening c e false [] (ascii "LOG")) (opening (c + 1) e true [] (ascii "LOG"))
      (line_taken_lem row (opening c e false [] (ascii "LOG")) _ (set_stopbits true) stopbits_said refl stopbits_fine.fits (omega arith))
      ∙ onward (row + 1) (c + 1) (omega arith)

  omit_leads : (e : Encode) (t : Bool) (o : List ℕ) (ls : List (List ℕ)) (a : Result) → all is_byte o ≡ true → length o ≤ omit_limit
      → Leads ls (λ c. opening c e t o (ascii "LOG")) a
      → Leads (line_if (not (same o [])) (ascii "#f:OMIT :" ++ hex_text o) ++ ls) (λ c. opening c e t [] (ascii "LOG")) a
  unfolding same take_meaning count_line with_settings is_comment take_omit
  omit_leads e t [] ls a h k onward row c l = onward row c l
  omit_leads e t (b ∷ o) ls a h k onward row c l =
      fold_on stretch _ ls row (opening c e t [] (ascii "LOG")) (opening (c + 1) e t (b ∷ o) (ascii "LOG"))
      (line_taken_lem row (opening c e t [] (ascii "LOG")) _ (set_omit (b ∷ o)) (omit_said (b ∷ o) h) refl (omit_fine (b ∷ o) h k).fits (omega arith)
      ∙ rw (le-leb (length (b ∷ o)) omit_limit k))
      ∙ onward (row + 1) (c + 1) (omega arith)

  lfext_leads : (e : Encode) (t : Bool) (o x : List ℕ) (ls : List (List ℕ)) (a : Result) → extension x ≡ true
      → Leads ls (λ c. opening c e t o x) a
      → Leads (line_if (not (same x (ascii "LOG"))) (ascii "#f:LFEXT " ++ x) ++ ls) (λ c. opening c e t o (ascii "LOG")) a
  unfolding take_meaning count_line with_settings is_comment
  lfext_leads e t o x ls a h onward = go (same x (ascii "LOG")) refl
    where
      go : (d : Bool) → same x (ascii "LOG") ≡ d
          → Leads (line_if (not d) (ascii "#f:LFEXT " ++ x) ++ ls) (λ c. opening c e t o (ascii "LOG")) a
      go true q row c l = subst (λ (y : List ℕ). Leads ls (λ c. opening c e t o y) a) (same_is x (ascii "LOG") q) onward row c l
      go false q row c l =
          fold_on stretch _ ls row (opening c e t o (ascii "LOG")) (opening (c + 1) e t o x)
          (line_taken_lem row (opening c e t o (ascii "LOG")) _ (set_lfext x) (lfext_said x h) refl (lfext_fine x h).fits (omega arith))
          ∙ onward (row + 1) (c + 1) (omega arith)

  -- ---- the whole

  stretched_right : (ps : List (List Statement)) (n : ℕ) (s : Script) → all_below stretch ps ≡ true → stretched stretch ps n s ≡ accepted s
  unfolding all_below stretched
  stretched_right [] n s h = refl
  stretched_right (p ∷ ps) n s h =
      rw (both_left (leb (stretch p) limit) (all_below stretch ps) h) (stretched_right ps (n + 1) s (both_right (leb (stretch p) limit) (all_below stretch ps) h))

  -- the fold over the listed lines
  lines_back : (s : Script) → Good stretch s → fold stretch (listed_lines s) 1 start ≡ accepted s
  unfolding listed_lines setting_lines start default
  lines_back s g =
      let x : Settings = s.settings in
      let ls : List (List ℕ) = body_lines s.body in
      let body : Leads ls (λ c. ready c x) (Done stretch x s.body) =
      λ row c k. body_taken s.body row c x (record { rights = g.rights; lines = k; bytes = g.bytes; nested = g.nested; few = g.few })
      in
      let whole =
      encode_leads x.encode _ _ g.settings.encode
      (stopbits_leads x.encode x.two_stopbits _ _
      (omit_leads x.encode x.two_stopbits x.omit _ _ g.settings.omit g.settings.omitted
      (lfext_leads x.encode x.two_stopbits x.omit x.lfext ls _ g.settings.lfext body)))
      in
      simp append_assoc (whole 1 0 (omega (arith, simp append_assoc at g.lines)) ∙ stretched_right (processes s.body) 1 s g.below)

  pub round : (s : Script) → Good stretch s → result_of stretch (listing s) ≡ accepted s
  unfolding result_of listing
  round s g =
      let size : length (listing s) ≤ text_limit = omega (arith, listing_size stretch s g) in
      rw (le-leb (length (with_line_ends (listed_lines s))) text_limit size, lines_joined (listed_lines s) (lines_whole stretch s g)) (lines_back s g)
