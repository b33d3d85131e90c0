-- The test of a script, taken apart into its facts, and put together from them. Assumes nothing.
use Prim.Native.Nat.{ℕ, ◌≤◌, ◌<◌}
use mathlib.Core.Path.{◌≡◌}
use mathlib.Core.Bool.{true}
use mathlib.Core.List.{List}
use lib.Dec.{ltb, leb}
use lib.ListN.{length}
use borrow.Author.Tests.{ltb-true, lt-ltb, leb-true, le-leb}
use Rattle.reader.specs.Bytes.{all}
use Rattle.reader.proofs.Tests.{both_left, both_right}
use Rattle.language.specs.Limits.{lines_limit, data_limit, omit_limit, process_limit}
use Rattle.language.specs.Script.{Statement, Settings, Item, Script, processes}
use Rattle.language.specs.Meaning.{extension}
use Rattle.language.specs.Listing.{listed_lines}
use Rattle.language.specs.Right.{is_byte, encode_right, settings_right, all_right, data_in, nexts_in, nests, all_below, script_right}

pub record RightSettings (s : Settings) : Type 0 where
  pub encode : encode_right s.encode ≡ true
  pub omit : all is_byte s.omit ≡ true
  pub omitted : length s.omit ≤ omit_limit
  pub lfext : extension s.lfext ≡ true

pub record Good (stretch : List Statement → ℕ) (s : Script) : Type 0 where
  pub settings : RightSettings s.settings
  pub rights : all_right s.body ≡ true
  pub lines : length (listed_lines s) ≤ lines_limit
  pub bytes : data_in s.body ≤ data_limit
  pub nested : nests s.body 0 ≡ true
  pub few : nexts_in s.body < process_limit
  pub below : all_below stretch (processes s.body) ≡ true

settings_good : (x : Settings) → settings_right x ≡ true → RightSettings x
unfolding settings_right
settings_good x h =
    let r0 = both_right (encode_right x.encode) _ h in
    let r1 = both_right (all is_byte x.omit) _ r0 in
    record {
      encode = both_left (encode_right x.encode) _ h;
      omit = both_left (all is_byte x.omit) _ r0;
      omitted = leb-true (length x.omit) omit_limit (both_left (leb (length x.omit) omit_limit) _ r1);
      lfext = both_right (leb (length x.omit) omit_limit) _ r1;
    }

good_settings : (x : Settings) → RightSettings x → settings_right x ≡ true
unfolding settings_right
good_settings x r = rw (r.encode, r.omit, le-leb (length x.omit) omit_limit r.omitted, r.lfext)

module _ (stretch : List Statement → ℕ) (s : Script) where
  pub good : script_right stretch s ≡ true → Good stretch s
  unfolding script_right
  good h =
      let is : List Item = s.body in
      let r0 = both_right (settings_right s.settings) _ h in
      let r1 = both_right (all_right is) _ r0 in
      let r2 = both_right (leb (length (listed_lines s)) lines_limit) _ r1 in
      let r3 = both_right (leb (data_in is) data_limit) _ r2 in
      let r4 = both_right (nests is 0) _ r3 in
      record {
        settings = settings_good s.settings (both_left (settings_right s.settings) _ h);
        rights = both_left (all_right is) _ r0;
        lines = leb-true (length (listed_lines s)) lines_limit (both_left (leb (length (listed_lines s)) lines_limit) _ r1);
        bytes = leb-true (data_in is) data_limit (both_left (leb (data_in is) data_limit) _ r2);
        nested = both_left (nests is 0) _ r3;
        few = ltb-true (nexts_in is) process_limit (both_left (ltb (nexts_in is) process_limit) _ r4);
        below = both_right (ltb (nexts_in is) process_limit) _ r4;
      }

  pub good_right : Good stretch s → script_right stretch s ≡ true
  unfolding script_right
  good_right g =
      rw (good_settings s.settings g.settings, g.rights, le-leb (length (listed_lines s)) lines_limit g.lines, le-leb (data_in s.body) data_limit g.bytes, g.nested, lt-ltb (nexts_in s.body) process_limit g.few, g.below)
