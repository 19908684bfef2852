-- Comparisons of pointers, worked by hand.
use Rattle.std.proofs.Common.{◌≡◌, ℕ, pos, negsuc, ℤ, true, false, [], ◌∷◌, replicate, refl}
use Rattle.ir_types.specs.declared.scalar.Pred.TheVariants.{Eq, Ne, Ugt, Ult, Sge, Slt}
use Rattle.ir_syntax.specs.declared.symbol.Sym.{Sym}
use Rattle.int_ops.specs.Comparisons.{icmp_holds}
use Rattle.block_memory.specs.declared.value.Name.TheVariants as name
use Rattle.block_memory.specs.declared.value.Val.{Val}
use Rattle.block_memory.specs.declared.value.Val.TheVariants as val
use Rattle.block_memory.specs.declared.value.Part.TheVariants as part
use Rattle.block_memory.specs.Answers.{Answer, Gives}
use Rattle.block_memory.specs.Blocks.{Live, Ended, MemoryData}
use Rattle.block_memory.specs.Comparisons.{compare, incomparable}

abbrev at : ℕ → ℤ → Val Sym
at number offset = val.At (name.Made number) offset

abbrev function : ℤ → Val Sym
function offset = val.At (name.Func (record { «module» = 0; item = 3 })) offset

-- two live blocks of four bytes, and an ended one
abbrev three : MemoryData
three = record {
  vars = [];
  made = Live (record { parts = replicate 4 part.Poison; writable = true; heap = false }) ∷ Live (record { parts = replicate 4 part.Poison; writable = true; heap = false }) ∷ Ended 4 ∷ [];
}

abbrev yes : Answer (Val Sym)
yes = Gives (val.Num 1)

abbrev no : Answer (Val Sym)
no = Gives (val.Num 0)

poison : compare three Slt (val.Num 3) val.Poison ≡ Gives val.Poison
poison = refl

-- null against null
nulls : compare three Sge val.Null val.Null ≡ yes
unfolding icmp_holds
nulls = refl

nulls_less : compare three Ult val.Null val.Null ≡ no
unfolding icmp_holds
nulls_less = refl

-- in one block, also an ended one
same_ended : compare three Eq (at 2 (pos 9)) (at 2 (pos 9)) ≡ yes
same_ended = refl

order : compare three Ult (at 0 (pos 3)) (at 0 (pos 4)) ≡ yes
unfolding icmp_holds
order = refl

order_outside : compare three Ult (at 0 (pos 3)) (at 0 (pos 5)) ≡ incomparable
order_outside = refl

signed : compare three Slt (at 0 (pos 3)) (at 0 (pos 4)) ≡ incomparable
signed = refl

-- across blocks
apart : compare three Ne (at 0 (pos 3)) (at 1 (pos 0)) ≡ yes
apart = refl

at_the_end : compare three Ne (at 0 (pos 4)) (at 1 (pos 0)) ≡ incomparable
at_the_end = refl

beside_ended : compare three Eq (at 0 (pos 0)) (at 2 (pos 0)) ≡ incomparable
beside_ended = refl

beside_function : compare three Eq (at 0 (pos 0)) (function (pos 0)) ≡ no
beside_function = refl

-- against null
not_null : compare three Ne (at 0 (pos 4)) val.Null ≡ yes
not_null = refl

below_null : compare three Ne val.Null (at 0 (negsuc 0)) ≡ incomparable
below_null = refl

ordered_with_null : compare three Ugt (at 0 (pos 0)) val.Null ≡ incomparable
ordered_with_null = refl
