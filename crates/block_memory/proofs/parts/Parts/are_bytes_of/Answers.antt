use Rattle.std.proofs.Common.{◌≡◌, ◌+◌, ◌-◌, take, drop, ap, ◌∙◌, arith}
use Rattle.ir_syntax.specs.InitialBytes.{address_bytes}
use Rattle.block_memory.specs.Parts.{are_bytes_of}
use Rattle.block_memory.proofs.parts.Parts.are_bytes_of.Goals as goal

pub loop-k-init : goal.loop-k-init
loop-k-init c =
    let here : c.args.at + 0 ≡ c.args.at = omega arith in
    ap (λ from. are_bytes_of c.args.of.now c.args.offset.now address_bytes (take 8 (drop from c.args.self.now))) here

pub returns : goal.returns
returns c =
    let all : 8 ≡ c.loop-k.k = omega arith in
    ap (λ k. are_bytes_of c.args.of.now c.args.offset.now (drop k address_bytes) (take (8 - k) (drop (c.args.at + k) c.args.self.now))) all ∙ c.loop-k.invariant
