use Rattle.std.proofs.Common.{ℕ, ◌-◌, List, ◌++◌, length, arith, ap}
use Rattle.std.proofs.lemmas.List.{take-replicate}
use Rattle.cred_blake.proofs.buffer.Buffer.pad.Goals as goal

pub returns : goal.returns
returns c =
    let used = c.len-room.ensures.exact in
    rw (c.extend.ensures, used) (ap (λ (zeros : List ℕ). c.args.self.now ++ zeros) (take-replicate (128 - length c.args.self.now) 128 0 (omega arith)))
