-- What an item of a module may be: what a text can write.
use Rattle.std.specs.Prelude.{◌≡◌, ◌≢◌, ℕ, ◌<◌, ◌≤◌, nat_eq, Bool, false, List, All, IsNone, IfSome, IfNone, OnSome, length, codes, IsTrue}
use Rattle.std.specs.List.{starts_with}
use Rattle.ir_syntax.specs.declared.item.Linkage.TheVariants.{External}
use Rattle.ir_syntax.specs.declared.item.Var.{Var}
use Rattle.ir_syntax.specs.declared.item.Func.{Func}
use Rattle.ir_syntax.specs.declared.item.Item.{Item}
use Rattle.ir_syntax.specs.declared.item.Item.TheVariants as item
use Rattle.ir_syntax.specs.Suits.{IsType, Suits}
use Rattle.ir_syntax.specs.FormedBody.{IsAlign, FormedBody}
use Rattle.ir_syntax.specs.Intrinsics.{is_intrinsic}
pub use Rattle.ir_types.specs.Names.{IsName}

-- The name begins with `llvm.`.
abbrev pub is_reserved : List ℕ → Bool
is_reserved name = starts_with nat_eq name (codes "llvm.")

pub record FormedVar (items : List Item) (var : Var) : Type 0 where
  pub has_name : IsName var.name
  -- no variable has a name that begins with `llvm.`
  pub not_reserved : is_reserved var.name ≡ false
  pub has_type : IsType var.ty
  -- the constant suits the type
  pub suits : IfSome var.init (λ init. Suits (length items) var.ty init)
  -- a declaration is external
  pub declared : IfNone var.init (var.linkage ≡ External)
  pub has_align : IsAlign var.align

pub record FormedFunc (items : List Item) (func : Func) : Type 0 where
  pub has_name : IsName func.name
  -- of the names that begin with `llvm.` only those of the intrinsics are there, and they are declared
  pub intrinsic : IsTrue (is_reserved func.name) → IsTrue (is_intrinsic func.name)
  pub not_defined : IsTrue (is_reserved func.name) → IsNone func.body
  -- at most 32 parameters
  pub few_params : length func.params ≤ 32
  -- a declaration is external
  pub declared : IfNone func.body (func.linkage ≡ External)
  -- a definition isn't variadic
  pub fixed : OnSome func.body (func.variadic ≡ false)
  pub has_body : IfSome func.body (FormedBody items (length func.params))

abbrev pub FormedItem : List Item → Item → Type 0
FormedItem items (item.Var var) = FormedVar items var
FormedItem items (item.Func func) = FormedFunc items func
