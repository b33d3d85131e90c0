-- `lister::statements::bare_name` meets its contract, name by name. Assumes nothing.
use mathlib.Core.Path.{◌≡◌, sym, ap}
use Rattle.language.specs.declared.Cell.{Cell}
use Rattle.lister.specs.Inside.Names.{bare_name}
use Rattle.lister.proofs.Printing.{printed_is, room_is}
use Rattle.lister.proofs.Stating.{no_name}
use borrow.Enum.Refused.{opened}
use Rattle.lister.proofs.statements.bare_name.Goals as goal

name-is : {x c : Cell} → x ≡ c → bare_name c ≡ bare_name x
name-is is = sym (ap bare_name is)

pub put-requires : goal.put-requires
unfolding bare_name
put-requires c = room_is (name-is c.in-End.is) c.requires

pub put-requires-in-Fchange : goal.put-requires-in-Fchange
unfolding bare_name
put-requires-in-Fchange c = room_is (name-is c.in-Fchange.is) c.requires

pub put-requires-in-Pause : goal.put-requires-in-Pause
unfolding bare_name
put-requires-in-Pause c = room_is (name-is c.in-Pause.is) c.requires

pub put-requires-in-Resume : goal.put-requires-in-Resume
unfolding bare_name
put-requires-in-Resume c = room_is (name-is c.in-Resume.is) c.requires

pub put-requires-in_default : goal.put-requires-in_default
put-requires-in_default c = room_is (no_name _ (opened c.in_default.in_default-own.keys5)) c.requires

pub returns-in-End : goal.returns-in-End
unfolding bare_name
returns-in-End c = printed_is (name-is c.in-End.is) c.put.ensures

pub returns-in-Fchange : goal.returns-in-Fchange
unfolding bare_name
returns-in-Fchange c = printed_is (name-is c.in-Fchange.is) c.put-in-Fchange.ensures

pub returns-in-Pause : goal.returns-in-Pause
unfolding bare_name
returns-in-Pause c = printed_is (name-is c.in-Pause.is) c.put-in-Pause.ensures

pub returns-in-Resume : goal.returns-in-Resume
unfolding bare_name
returns-in-Resume c = printed_is (name-is c.in-Resume.is) c.put-in-Resume.ensures

pub returns-in_default : goal.returns-in_default
returns-in_default c = printed_is (no_name _ (opened c.in_default.in_default-own.keys5)) c.put-in_default.ensures
