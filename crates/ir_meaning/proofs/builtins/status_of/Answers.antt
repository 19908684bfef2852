use Rattle.std.proofs.Common.{◌≡◌, ◌∙◌, ◌∷◌, [], length, ap, sym, arith, slice_index_or}
use Rattle.block_memory.specs.declared.value.Val.TheVariants as val
use Rattle.ir_meaning.proofs.Status.{status}
use Rattle.ir_meaning.proofs.builtins.status_of.Goals as goal

pub unreachable-requires : goal.unreachable-requires
unreachable-requires c =
    let s = status c.args.args.now c.requires in
    let one = ap length s.is in
    omega (arith, one)

pub overflow_cast-result : goal.overflow_cast-result
overflow_cast-result c =
    let s = status c.args.args.now c.requires in
    let e : val.Num s.n ≡ val.Num c.in-Num.n = sym (ap (λ xs. slice_index_or xs 0 (val.Num 0)) s.is) ∙ c.in-Num.is in
    let same : s.n ≡ c.in-Num.n = cc (e) in
    let small = s.small in
    omega arith

pub unreachable-requires-in-Null : goal.unreachable-requires-in-Null
unreachable-requires-in-Null c =
    let s = status c.args.args.now c.requires in
    let e : val.Num s.n ≡ val.Null = sym (ap (λ xs. slice_index_or xs 0 (val.Num 0)) s.is) ∙ c.in-Null.is in
    cc (e)

pub unreachable-requires-in-At : goal.unreachable-requires-in-At
unreachable-requires-in-At c =
    let s = status c.args.args.now c.requires in
    let e : val.Num s.n ≡ val.At c.in-At.field-0 c.in-At.field-1 = sym (ap (λ xs. slice_index_or xs 0 (val.Num 0)) s.is) ∙ c.in-At.is in
    cc (e)

pub unreachable-requires-in-Poison : goal.unreachable-requires-in-Poison
unreachable-requires-in-Poison c =
    let s = status c.args.args.now c.requires in
    let e : val.Num s.n ≡ val.Poison = sym (ap (λ xs. slice_index_or xs 0 (val.Num 0)) s.is) ∙ c.in-Poison.is in
    cc (e)
