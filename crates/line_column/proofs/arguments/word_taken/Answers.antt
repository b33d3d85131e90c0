-- `word_taken` meets its contract: each name has its way to take. Assumes nothing.
use Rattle.line_column.proofs.arguments.word_taken.Goals as goal

pub returns-in-Loop : goal.returns-in-Loop
returns-in-Loop c = rw c.in-Loop.is c.loop_taken.ensures

pub returns-in-Time : goal.returns-in-Time
returns-in-Time c = rw c.in-Time.is c.time_taken.ensures

pub returns-in-Byte : goal.returns-in-Byte
returns-in-Byte c = rw c.in-Byte.is c.number_taken.ensures

pub returns-in-Clock : goal.returns-in-Clock
returns-in-Clock c = rw c.in-Clock.is c.clock_taken.ensures

pub returns-in-Rts : goal.returns-in-Rts
returns-in-Rts c = rw c.in-Rts.is c.rts_taken.ensures

pub returns-in-Ex : goal.returns-in-Ex
returns-in-Ex c = rw c.in-Ex.is c.in_taken.ensures

pub returns-in-Lfext : goal.returns-in-Lfext
returns-in-Lfext c = rw c.in-Lfext.is c.lfext_taken.ensures
