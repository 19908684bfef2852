-- Calls: types that are the same, and the parameters of a whole type.
use Rattle.std.proofs.Common.{◌≡◌, ◌∙◌, ℕ, zero, suc, ◌-◌, ◌<◌, ◌≤◌, ◌==◌, Bool, true, false, leb, List, [], ◌∷◌, ◌++◌, length, drop, map, codes, refl, ap, sym, append_assoc, if◌then◌else◌, arith}
use Rattle.std.proofs.lemmas.Bool.Decides.{nat_tests}
use Rattle.std.proofs.lemmas.List.{append-nil, drop_all, length-drop, length-map}
use Rattle.ir_lexer.specs.Written.{Part, bytes_of}
use Rattle.ir_types.specs.declared.scalar.Scalar.{Scalar}
use Rattle.ir_types.specs.declared.scalar.Scalar.TheVariants.{Ptr}
use Rattle.ir_types.specs.declared.scalar.Ext.{Ext}
use Rattle.ir_types.specs.declared.scalar.FnType.{FnType}
use Rattle.ir_syntax.specs.declared.constant.Operand.{Operand}
use Rattle.ir_syntax.specs.declared.body.Arg.{Arg}
use Rattle.ir_writer.specs.Words.{Parts, space, word, comma, open_paren, close_paren, listed, more, scalar, returned, ext_before}
use Rattle.ir_writer.specs.Instructions.{operand_parts, same_types, is_whole, dots, whole_parts, arg_parts, call_parts}
use Rattle.ir_writer.proofs.Bytes.{bytes_append}
use Rattle.ir_writer.proofs.LineTexts.{also}

-- ---- types that are the same

abbrev types_of : List Arg → List Scalar
types_of args = map (λ (arg : Arg). arg.ty) args

some_left : (tys : List Scalar) → 0 < length tys → false ≡ same_types tys []
some_left [] some = absurd (omega arith)
some_left (ty ∷ tys) some = refl

-- a type is left and no argument
pub no_argument_left : (tys : List Scalar) (args : List Arg) (k : ℕ) → k < length tys → length args ≤ k → false ≡ same_types (drop k tys) (types_of (drop k args))
no_argument_left tys args k within past =
    some_left (drop k tys) (omega (arith, length-drop k tys)) ∙ ap (λ xs. same_types (drop k tys) (types_of xs)) (sym (drop_all k args past))

by_length : (rest : List Arg) (m n : ℕ) → length rest ≡ m - n → leb m n ≡ same_types [] (types_of rest)
by_length [] m n e = grind (arith, nat_tests)
by_length (arg ∷ rest) m n e = grind (arith, nat_tests)

-- no type is left
pub no_type_left : (tys : List Scalar) (args : List Arg) (k : ℕ) → k ≡ length tys → leb (length args) (length tys) ≡ same_types (drop k tys) (types_of (drop k args))
no_type_left tys args k all =
    by_length (drop k args) (length args) (length tys) (omega (arith, length-drop k args))
    ∙ ap (λ xs. same_types xs (types_of (drop k args))) (sym (drop_all k tys (omega arith)))

-- ---- whole types

-- what is written of `...` behind so many others
abbrev pub dots_text : ℕ → Bool → List ℕ
dots_text n variadic = if variadic then (if n == 0 then [] else codes ", ") ++ codes "..." else []

more_append : (lists others : List Parts) → more (lists ++ others) ≡ more lists ++ more others
more_append [] others = refl
more_append (parts ∷ lists) others = ap (λ xs. comma ∷ space ∷ (parts ++ xs)) (more_append lists others) ∙ ap (λ xs. comma ∷ space ∷ xs) (sym (append_assoc parts (more lists) (more others)))

dots_first : (n : ℕ) → n ≡ 0 → codes "..." ≡ dots_text n true
dots_first n none = ap (λ k. dots_text k true) (sym none)

dots_more : (n : ℕ) → 0 < n → codes ", ..." ≡ dots_text n true
dots_more zero some = absurd (omega arith)
dots_more (suc n) some = let other : (suc n == 0) ≡ false = grind (arith, nat_tests) in ap (λ b. (if b then [] else codes ", ") ++ codes "...") (sym other)

pub dots_behind : (lists : List Parts) (n : ℕ) (variadic : Bool) → n ≡ length lists → bytes_of (listed (lists ++ dots variadic)) ≡ bytes_of (listed lists) ++ dots_text n variadic
dots_behind lists n false e = ap (λ xs. bytes_of (listed xs)) (append-nil lists) ∙ sym (append-nil (bytes_of (listed lists)))
dots_behind [] n true e = dots_first n e
dots_behind (parts ∷ lists) n true e =
    ap (λ xs. bytes_of (parts ++ xs)) (more_append lists (dots true))
    ∙ ap bytes_of (sym (append_assoc parts (more lists) (more (dots true))))
    ∙ bytes_append (parts ++ more lists) (more (dots true))
    ∙ ap (λ xs. bytes_of (parts ++ more lists) ++ xs) (dots_more n (omega arith))

pub whole_written : (fn_ty : FnType) (params : List Scalar) (n : ℕ) (out a b c d : List ℕ) → params ≡ fn_ty.params → n ≡ length fn_ty.params →
    a ≡ out ++ codes "(" → b ≡ a ++ bytes_of (listed (map (λ ty. scalar ty ∷ []) params)) → c ≡ b ++ dots_text n fn_ty.variadic → d ≡ c ++ codes ") " → d ≡ out ++ bytes_of (whole_parts fn_ty)
whole_written fn_ty params n out a b c d same count one two three four =
    four
    ∙ ap (λ x. x ++ codes ") ") (three ∙ ap (λ x. x ++ dots_text n fn_ty.variadic) (two ∙ ap (λ x. x ++ bytes_of (listed (map (λ ty. scalar ty ∷ []) params))) one ∙ ap (λ xs. (out ++ codes "(") ++ bytes_of (listed (map (λ ty. scalar ty ∷ []) xs))) same))
    ∙ regroup (bytes_of (listed lists)) (dots_text n fn_ty.variadic)
    ∙ ap (λ x. out ++ 40 ∷ (x ++ codes ") ")) (sym (dots_behind lists n fn_ty.variadic (count ∙ sym (length-map fn_ty.params (λ ty. scalar ty ∷ [])))))
    ∙ ap (λ x. out ++ 40 ∷ x) (sym (bytes_append (listed (lists ++ dots fn_ty.variadic)) (close_paren ∷ space ∷ [])))
  where
    lists : List Parts
    lists = map (λ ty. scalar ty ∷ []) fn_ty.params

    regroup : (types more : List ℕ) → (((out ++ codes "(") ++ types) ++ more) ++ codes ") " ≡ out ++ 40 ∷ ((types ++ more) ++ codes ") ")
    regroup types more = simp append_assoc

-- ---- calls

pub call_written : (names : List (List ℕ)) (fn_ty : FnType) (ext : Ext) (callee : Operand) (args : List Arg) (out a b c d e f g h new : List ℕ) →
    a ≡ out ++ codes "call " → b ≡ a ++ bytes_of (ext_before ext) → c ≡ b ++ bytes_of (returned fn_ty.returns ∷ []) → d ≡ c ++ codes " " →
    e ≡ d ++ bytes_of (if is_whole fn_ty args then whole_parts fn_ty else []) → f ≡ e ++ bytes_of (operand_parts names Ptr callee) → g ≡ f ++ codes "(" →
    h ≡ g ++ bytes_of (listed (map (arg_parts names) args)) → new ≡ h ++ codes ")" → new ≡ out ++ bytes_of (call_parts names fn_ty ext callee args)
call_written names fn_ty ext callee args out a b c d e f g h new one two three four five six seven eight nine =
    at_parts (returned fn_ty.returns) (if is_whole fn_ty args then whole_parts fn_ty else []) (operand_parts names Ptr callee) (listed (map (arg_parts names) args)) one two three four five six seven eight nine
  where
    at_parts : (ret : Part) (whole operand given : Parts) → a ≡ out ++ codes "call " → b ≡ a ++ bytes_of (ext_before ext) → c ≡ b ++ bytes_of (ret ∷ []) → d ≡ c ++ codes " " → e ≡ d ++ bytes_of whole →
        f ≡ e ++ bytes_of operand → g ≡ f ++ codes "(" → h ≡ g ++ bytes_of given → new ≡ h ++ codes ")" →
        new ≡ out ++ bytes_of (word (codes "call") ∷ space ∷ (ext_before ext ++ ret ∷ space ∷ (whole ++ (operand ++ open_paren ∷ (given ++ close_paren ∷ [])))))
    at_parts ret whole operand given p1 p2 p3 p4 p5 p6 p7 p8 p9 =
        also (word (codes "call") ∷ space ∷ []) (ext_before ext ++ ret ∷ space ∷ (whole ++ (operand ++ open_paren ∷ (given ++ close_paren ∷ [])))) out a new p1
        (also (ext_before ext) (ret ∷ space ∷ (whole ++ (operand ++ open_paren ∷ (given ++ close_paren ∷ [])))) a b new p2
        (also (ret ∷ []) (space ∷ (whole ++ (operand ++ open_paren ∷ (given ++ close_paren ∷ [])))) b c new p3
        (also (space ∷ []) (whole ++ (operand ++ open_paren ∷ (given ++ close_paren ∷ []))) c d new p4
        (also whole (operand ++ open_paren ∷ (given ++ close_paren ∷ [])) d e new p5
        (also operand (open_paren ∷ (given ++ close_paren ∷ [])) e f new p6
        (also (open_paren ∷ []) (given ++ close_paren ∷ []) f g new p7
        (also given (close_paren ∷ []) g h new p8 p9)))))))
