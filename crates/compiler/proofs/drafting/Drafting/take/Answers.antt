-- `take` meets its contract: the settings by laws of `Setting`. Assumes nothing.
use Rattle.compiler.proofs.Setting.{encode_on, stopbits_on, lfext_on}
use Rattle.compiler.proofs.drafting.Drafting.take.Goals as goal

pub returns-in-Encode : goal.returns-in-Encode
returns-in-Encode c = rw c.in-Encode.is (encode_on _ c.args.self.now c.in-Encode.byte)

pub returns-in-Stopbits : goal.returns-in-Stopbits
returns-in-Stopbits c = rw c.in-Stopbits.is (stopbits_on _ c.args.self.now c.in-Stopbits.two)

pub returns-in-Lfext : goal.returns-in-Lfext
returns-in-Lfext c = rw c.in-Lfext.is (λ l k e. lfext_on _ c.args.self.now _ l k e)
