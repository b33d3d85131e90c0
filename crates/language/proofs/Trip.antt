-- A LISTING COMPILES TO THE SAME SCRIPT, and the scripts that texts have are exactly those that pass the test. Assumes nothing.
use Prim.Native.Nat.{ℕ}
use mathlib.Core.Path.{◌≡◌}
use mathlib.Core.Bool.{true}
use mathlib.Core.List.{List}
use Rattle.reader.specs.Bytes.{all}
use Rattle.language.specs.Script.{Statement, Script}
use Rattle.language.specs.Listing.{listing}
use Rattle.language.specs.Right.{is_byte, script_right}
use Rattle.language.specs.Draft.{accepted, result_of}
use Rattle.language.proofs.Good.{good, good_right}
use Rattle.language.proofs.Size.{listing_bytes}
use Rattle.language.proofs.Round.{round}
use Rattle.language.proofs.Accepted.{compiled_good}

-- a text of bytes has this script
pub record Has (stretch : List Statement → ℕ) (s : Script) (t : List ℕ) : Type 0 where
  pub bytes : all is_byte t ≡ true
  pub result : result_of stretch t ≡ accepted s

module _ (stretch : List Statement → ℕ) where
  -- "A listing printed from a table compiles to that same table"
  pub round_trip : (s : Script) (t : List ℕ) → Has stretch s t → Has stretch s (listing s)
  round_trip s t h =
      let g = compiled_good stretch t s h.bytes h.result in
      record { bytes = listing_bytes stretch s g; result = round stretch s g }

  -- a script that passes the test is the script of a text, its listing
  pub right_accepted : (s : Script) → script_right stretch s ≡ true → Has stretch s (listing s)
  right_accepted s h = let g = good stretch s h in record { bytes = listing_bytes stretch s g; result = round stretch s g }

  -- and only such a script is: "no accepted script has this table" is a test that computes
  pub accepted_right : (s : Script) (t : List ℕ) → Has stretch s t → script_right stretch s ≡ true
  accepted_right s t h = good_right stretch s (compiled_good stretch t s h.bytes h.result)

  pub right_exactly : (s : Script) → (script_right stretch s ≡ true → (t : List ℕ) × Has stretch s t) × (((t : List ℕ) × Has stretch s t) → script_right stretch s ≡ true)
  right_exactly s = ((λ h. (listing s, right_accepted s h)), (λ p. accepted_right s p.0 p.1))
