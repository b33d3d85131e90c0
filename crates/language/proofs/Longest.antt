-- THE BOUND ON A LISTING IS REACHED: a right script whose listing is 13,670 bytes long. Assumes nothing.
use mathlib.Core.Path.{◌≡◌, refl}
use mathlib.Core.Bool.{true, false}
use mathlib.Core.List.{[], ◌∷◌, ◌++◌, replicate}
use lib.ListN.{length}
use Rattle.reader.specs.Ascii.{ascii}
use Rattle.language.specs.Script.{wait_data, wait_clock, unset, does, Script}
use Rattle.language.specs.Stretch.{stretch_of}
use Rattle.language.specs.Listing.{listing}
use Rattle.language.specs.Right.{is_byte, in_line, data_right, in_ranges, clock_right, right, encode_right, settings_right, all_right, data_in, nexts_in, may_nest, depth_after, nests, all_below, script_right}
use Rattle.language.proofs.Opened.{printed}
use Rattle.language.specs.Limits.{listing_limit}

-- ten OMIT bytes, 493 clock values of four units, and 1,024 bytes in hex, as many to a line as it has room for
pub longest : Script
longest =
    record {
      settings = record { encode = unset; two_stopbits = false; omit = replicate 10 0; lfext = ascii "LOG" };
      body = replicate 493 (does (wait_clock (31 ∷ 23 ∷ 59 ∷ 59 ∷ []))) ++ (replicate 17 (does (wait_data (replicate 57 0))) ++ does (wait_data (replicate 55 0)) ∷ []);
    }

pub longest_size : length (listing longest) ≡ listing_limit
unfolding printed longest
longest_size = refl

pub longest_right : script_right stretch_of longest ≡ true
unfolding printed longest is_byte in_line data_right in_ranges clock_right right encode_right settings_right all_right data_in nexts_in may_nest depth_after nests all_below script_right
longest_right = refl
