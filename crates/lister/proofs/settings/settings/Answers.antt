-- `lister::settings::settings` meets its contract. Assumes nothing.
use mathlib.Core.Path.{◌≡◌}
use native.Mathlib.Omega.{arith}
use lib.ListN.{length, take, length-take}
use Rattle.accepted.proofs.EndsFit.{take_clip}
use Rattle.lister.proofs.Setting.{encode_room, stopbits_room, omit_room_lem, lfext_room, settings_printed, omit_is}
use Prim.Native.Nat.{ℕ, min}
use Rattle.lister.proofs.Printing.{printed_is, room_is}
use borrow.Author.Rules.{rules}
use Rattle.lister.proofs.settings.settings.Goals as goal
use Rattle.lister.proofs.settings.settings.Goals.{Start}

all-omits : (s : Start) → length s.args.heads.omit ≡ 10
all-omits s = search rules

-- the bytes of OMIT
omits-are : (s : Start) {n k : ℕ} → n ≡ s.args.heads.omits → k ≡ min n 10 → take k s.args.heads.omit ≡ take s.args.heads.omits s.args.heads.omit
omits-are s {n} {k} is few = take_clip s.args.heads.omits k s.args.heads.omit (omega (arith, is, few, all-omits s))

pub encode_line-first-requires : goal.encode_line-first-requires
encode_line-first-requires c = encode_room _ c.requires

pub stopbits_line-second-requires : goal.stopbits_line-second-requires
stopbits_line-second-requires c = stopbits_room _ c.requires c.encode_line-first.ensures

pub omit_line-third-requires : goal.omit_line-third-requires
omit_line-third-requires c =
    let h = c.args.heads in (
      omega (arith, all-omits (goal.at.omit_line-third-requires c).Start, length-take c.min-omits.result h.omit, c.min-omits.ensures),
      room_is (omit_is h (omits-are (goal.at.omit_line-third-requires c).Start c.from.ensures c.min-omits.ensures))
          (omit_room_lem _ c.requires c.encode_line-first.ensures c.stopbits_line-second.ensures),
    )

pub lfext_line-requires : goal.lfext_line-requires
lfext_line-requires c =
    let few = omits-are (goal.at.lfext_line-requires c).Start c.from.ensures c.min-omits.ensures in
    lfext_room _ c.requires c.encode_line-first.ensures c.stopbits_line-second.ensures
    (printed_is (omit_is c.args.heads few) c.omit_line-third.ensures)

pub returns : goal.returns
returns c =
    let few = omits-are (goal.at.returns c).Start c.from.ensures c.min-omits.ensures in
    settings_printed _ c.requires c.encode_line-first.ensures
    c.stopbits_line-second.ensures
    (printed_is (omit_is c.args.heads few)
    c.omit_line-third.ensures) c.lfext_line.ensures
