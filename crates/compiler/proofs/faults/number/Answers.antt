-- The number of a fault is the one that stands beside it. Assumes nothing.
use Rattle.std.proofs.Common.{rules}
use Rattle.language.specs.Answer.{fault_number}
use Rattle.compiler.proofs.faults.number.Goals as goal

pub returns : goal.returns
unfolding fault_number
returns c = search rules

pub returns-2 : goal.returns-2
unfolding fault_number
returns-2 c = search rules

pub returns-3 : goal.returns-3
unfolding fault_number
returns-3 c = search rules

pub returns-4 : goal.returns-4
unfolding fault_number
returns-4 c = search rules

pub returns-5 : goal.returns-5
unfolding fault_number
returns-5 c = search rules

pub returns-6 : goal.returns-6
unfolding fault_number
returns-6 c = search rules

pub returns-7 : goal.returns-7
unfolding fault_number
returns-7 c = search rules

pub returns-8 : goal.returns-8
unfolding fault_number
returns-8 c = search rules

pub returns-9 : goal.returns-9
unfolding fault_number
returns-9 c = search rules

pub returns-10 : goal.returns-10
unfolding fault_number
returns-10 c = search rules

pub returns-11 : goal.returns-11
unfolding fault_number
returns-11 c = search rules

pub returns-12 : goal.returns-12
unfolding fault_number
returns-12 c = search rules
