-- Variables, an intrinsic and its call, worked by hand.
use Rattle.std.proofs.Common.{◌≡◌, ℕ, pos, true, false, ◌&&◌, ◌==◌, nat_lt, IsTrue, List, [], ◌∷◌, None, Some, codes, length, refl, ap, sym, ◌∙◌, arith}
use Rattle.std.proofs.lemmas.Bool.{false≢true}
use Rattle.ir_types.specs.declared.scalar.Scalar.TheVariants.{I1, I8, I64, Ptr}
use Rattle.ir_types.specs.declared.scalar.Ext.TheVariants.{Plain}
use Rattle.ir_types.specs.declared.shape.Ty.TheBlock.{One}
use Rattle.ir_types.specs.declared.shape.Ty.TheViews.{Array}
use Rattle.ir_types.specs.declared.shape.Ty.TheVariants.{outs-One, outs-Array}
use Rattle.ir_types.proofs.Nestings.{nesting-One, nesting-Array, nodes-One, nodes-Array}
use Rattle.ir_syntax.specs.declared.constant.Const.TheBlock.{Int, Addr, Text}
use Rattle.ir_syntax.specs.declared.constant.Const.TheViews.{Many}
use Rattle.ir_syntax.specs.declared.constant.Operand.TheVariants as operand
use Rattle.ir_syntax.specs.declared.item.Linkage.TheVariants.{External, Private}
use Rattle.ir_syntax.specs.declared.item.Var.{Var}
use Rattle.ir_syntax.specs.declared.item.Func.{Func}
use Rattle.ir_syntax.specs.declared.item.Item.{Item}
use Rattle.ir_syntax.specs.Suits.{IsType, suits, takes_address, takes_text, takes_parts, is_byte}
use Rattle.ir_syntax.specs.FormedBody.{EndsInFalse}
use Rattle.ir_syntax.specs.FormedItem.{FormedVar, FormedFunc}
use Rattle.ir_syntax.proofs.SuitLemmas.{suits-Addr, suits-Text, suits-Many}
use Rattle.ir_syntax.proofs.WorkedRows.{all_from_test}

-- `@t = global [1 x ptr] [ptr @cb]`, where `@cb` is the third item
abbrev table : Var
table = record { name = codes "t"; linkage = External; constant = false; ty = Array 1 (One Ptr); init = Some (Many (Addr 2 (pos 0) ∷ [])); align = None }

table-type : IsType (Array 1 (One Ptr))
table-type = record {
  nests = omega (arith, nesting-Array 1 (One Ptr), nesting-One Ptr);
  has_nodes = omega (arith, nodes-Array 1 (One Ptr), nodes-One Ptr);
}

third-suits : suits 3 (Addr 2 (pos 0)) (One Ptr) ≡ true
third-suits = suits-Addr 3 2 (pos 0) (One Ptr) ∙ ap (λ x. takes_address x && nat_lt 2 3) (outs-One Ptr)

table-suits : IsTrue (suits 3 (Many (Addr 2 (pos 0) ∷ [])) (Array 1 (One Ptr)))
table-suits =
    suits-Many 3 (Addr 2 (pos 0) ∷ []) (Array 1 (One Ptr)) ∙ ap (λ x. takes_parts x (suits 3 (Addr 2 (pos 0)) ∷ [])) (outs-Array 1 (One Ptr)) ∙ ap (λ b. true && (b && true)) third-suits

pub table-formed : (items : List Item) → 3 ≡ length items → FormedVar items table
table-formed items three = record {
  has_name = record { not_empty = omega arith; short = omega arith; no_zero = all_from_test (codes "t") refl };
  not_reserved = refl;
  has_type = table-type;
  suits = ap (λ n. suits n (Many (Addr 2 (pos 0) ∷ [])) (Array 1 (One Ptr))) (sym three) ∙ table-suits;
  declared = tt;
  has_align = tt;
}

-- `@__const.main.b = private constant [4 x i8] c"ok\00\00", align 1`
abbrev text : Var
text = record { name = codes "__const.main.b"; linkage = Private; constant = true; ty = Array 4 (One I8); init = Some (Text (111 ∷ 107 ∷ 0 ∷ 0 ∷ [])); align = Some 0 }

text-type : IsType (Array 4 (One I8))
text-type = record {
  nests = omega (arith, nesting-Array 4 (One I8), nesting-One I8);
  has_nodes = omega (arith, nodes-Array 4 (One I8), nodes-One I8);
}

text-suits : (items : ℕ) → IsTrue (suits items (Text (111 ∷ 107 ∷ 0 ∷ 0 ∷ [])) (Array 4 (One I8)))
text-suits items =
    suits-Text items (111 ∷ 107 ∷ 0 ∷ 0 ∷ []) (Array 4 (One I8)) ∙ ap (λ x. takes_text x 4) (outs-Array 4 (One I8)) ∙ ap (λ x. is_byte x && 4 == 4) (outs-One I8)

pub text-formed : (items : List Item) → FormedVar items text
text-formed items = record {
  has_name = record { not_empty = omega arith; short = omega arith; no_zero = all_from_test (codes "__const.main.b") refl };
  not_reserved = refl;
  has_type = text-type;
  suits = text-suits (length items);
  declared = tt;
  has_align = omega arith;
}

-- `declare void @llvm.memcpy.p0.p0.i64(ptr, ptr, i64, i1)`
abbrev copying : Func
copying = record {
  name = codes "llvm.memcpy.p0.p0.i64";
  linkage = External;
  returns = None;
  ret_ext = Plain;
  params = record { ty = Ptr; ext = Plain } ∷ record { ty = Ptr; ext = Plain } ∷ record { ty = I64; ext = Plain } ∷ record { ty = I1; ext = Plain } ∷ [];
  variadic = false;
  body = None;
}

pub copying-formed : (items : List Item) → FormedFunc items copying
copying-formed items = record {
  has_name = record { not_empty = omega arith; short = omega arith; no_zero = all_from_test (codes "llvm.memcpy.p0.p0.i64") refl };
  intrinsic = λ h. refl;
  not_defined = λ h. refl;
  few_params = omega arith;
  declared = refl;
  fixed = tt;
  has_body = tt;
}

-- `declare i32 @printf(ptr, ...)`
abbrev printing : Func
printing = record { name = codes "printf"; linkage = External; returns = None; ret_ext = Plain; params = record { ty = Ptr; ext = Plain } ∷ []; variadic = true; body = None }

pub printing-formed : (items : List Item) → FormedFunc items printing
printing-formed items = record {
  has_name = record { not_empty = omega arith; short = omega arith; no_zero = all_from_test (codes "printf") refl };
  intrinsic = λ h. absurd (false≢true h);
  not_defined = λ h. absurd (false≢true h);
  few_params = omega arith;
  declared = refl;
  fixed = tt;
  has_body = tt;
}

-- the arguments of a copy: two addresses, a length, and the constant false
pub copying-ends : EndsInFalse (record { ty = Ptr; ext = Plain; value = operand.Reg 1 } ∷ record { ty = Ptr; ext = Plain; value = operand.Const (Addr 0 (pos 0)) } ∷ record { ty = I64; ext = Plain; value = operand.Const (Int 4) } ∷ record { ty = I1; ext = Plain; value = operand.Const (Int 0) } ∷ [])
copying-ends = (refl, refl)
