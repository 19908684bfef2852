-- A return is safe: the caller goes on with a value of the type that its call was written with, or the root has returned.
use Rattle.std.proofs.Common.{◌≡◌, ◌∙◌, List, [], ◌∷◌, length, Option, Some, None, option_and_then, refl, sym, ap, subst}
use Rattle.ir_types.specs.declared.scalar.Scalar.{Scalar}
use Rattle.ir_syntax.specs.declared.symbol.Sym.{Sym}
use Rattle.ir_syntax.specs.declared.symbol.SymName.{SymName}
use Rattle.ir_syntax.specs.declared.body.Inst.{Inst}
use Rattle.ir_syntax.specs.declared.body.Inst.TheVariants.{Bin, Icmp, Select, Cast, Alloca, Load, Store, Gep, Call}
use Rattle.ir_syntax.specs.declared.item.Func.{Func}
use Rattle.ir_syntax.specs.declared.item.Item.TheVariants as item
use Rattle.ir_syntax.specs.Programs.{ProgramData, IsProgram}
use Rattle.ir_syntax.specs.Results.{result_type}
use Rattle.ir_syntax.specs.Symbols.{item_at}
use Rattle.block_memory.specs.declared.value.Val.{Val}
use Rattle.block_memory.specs.Answers.{Gives}
use Rattle.block_memory.specs.Blocks.{MemoryData}
use Rattle.ir_steps.specs.declared.session.Stepped.TheVariants as stepped
use Rattle.ir_steps.specs.States.{Frame, Point}
use Rattle.ir_steps.specs.Results.{state}
use Rattle.ir_steps.specs.Calls.{func_of}
use Rattle.ir_steps.specs.Showing.{shown_value}
use Rattle.ir_steps.specs.Returns.{end_all, resumed, resume, root_returns, returns_to, returns}
use Rattle.ir_steps.proofs.Fits.{MemoryFits, FrameFits, returns_at, IsCalling, Wait}
use Rattle.ir_steps.proofs.Showing.{shown_value_is}
use Rattle.ir_steps.proofs.Values.{IsResult}
use Rattle.ir_steps.proofs.AccessingMade.{end_all_keeps}
use Rattle.ir_steps.proofs.Frames.{at_head}
use Rattle.ir_steps.proofs.FramesKept.{has_slot, NextFits, AtPoint, goes_on_safe}
use Rattle.ir_steps.proofs.Branching.{AtTerm}
use Rattle.ir_steps.proofs.Safely.{Safe, safe_read}

-- the return type of the function that a symbol names
pub returns_is : (p : ProgramData) (symbol : Sym) (func : Func) → item_at p.modules symbol ≡ Some (item.Func func) → returns_at p symbol ≡ func.returns
returns_is p symbol func e = ap (λ o. option_and_then (λ func. func.returns) (option_and_then func_of o)) e

-- A caller goes on behind its call.
resumed_safe : (p : ProgramData) (at : Point) (i : Inst) (t : Option Scalar) (o : Option (Val Sym)) → AtPoint p at i → result_type i ≡ t → IsResult p (length at.memory.made) t o → Safe (NextFits p) (resumed at t o)
resumed_safe p at i None None h e r = goes_on_safe p at i None None h e r
resumed_safe p at i None (Some x) h e r = absurd r
resumed_safe p at i (Some ty) None h e r = absurd r
resumed_safe p at i (Some ty) (Some x) h e r = goes_on_safe p at i (Some ty) (Some x) h e r

resume_safe : (p : ProgramData) → IsProgram p → (mem : MemoryData) (returns : Option Scalar) (f : Frame) (below : List Frame) (o : Option (Val Sym)) (rest : List Inst) → f.rest ≡ rest → MemoryFits p mem → FrameFits p (length mem.made) f
    → IsCalling returns rest → Wait p (length mem.made) (returns_at p f.func) below → IsResult p (length mem.made) returns o → Safe (NextFits p) (resume f below mem o rest)
resume_safe p program mem returns f below o [] e m fits calling w r = calling
resume_safe p program mem returns f below o (Bin op flags ty a b ∷ behind) e m fits calling w r = calling
resume_safe p program mem returns f below o (Icmp pred ty a b ∷ behind) e m fits calling w r = calling
resume_safe p program mem returns f below o (Select ty cond a b ∷ behind) e m fits calling w r = calling
resume_safe p program mem returns f below o (Cast op nneg from to a ∷ behind) e m fits calling w r = calling
resume_safe p program mem returns f below o (Alloca ty count align ∷ behind) e m fits calling w r = calling
resume_safe p program mem returns f below o (Load ty at align ∷ behind) e m fits calling w r = calling
resume_safe p program mem returns f below o (Store ty v at align ∷ behind) e m fits calling w r = calling
resume_safe p program mem returns f below o (Gep inbounds ty base indices ∷ behind) e m fits calling w r = calling
resume_safe p program mem returns f below o (Call fn_ty ret_ext callee args ∷ behind) e m fits calling w r =
    let made = length mem.made in
    let i = Call fn_ty ret_ext callee args in
    let at : Point = record { frame = f; behind = behind; below = below; memory = mem } in
    let here : IsResult p made fn_ty.returns o = subst (λ t. IsResult p made t o) (sym calling) r in
    let point : AtPoint p at i = record { memory = m; slot = has_slot p made f i behind (at_head p program made f fits i behind e); waits = w } in
    resumed_safe p at i fn_ty.returns o point refl here

-- The root's value has a name.
root_returns_safe : (p : ProgramData) (mem : MemoryData) (returns : Option Scalar) (o : Option (Val Sym)) → MemoryFits p mem → IsResult p (length mem.made) returns o → Safe (NextFits p) (root_returns p mem o)
root_returns_safe p mem returns None m r = record { memory = m; frames = tt }
root_returns_safe p mem None (Some x) m r = absurd r
root_returns_safe p mem (Some ty) (Some x) m r =
    safe_read (λ s. Unit {0}) (NextFits p) (λ (named : Val SymName). Gives (stepped.Returned (Some named), state [] mem)) (shown_value p x) (shown_value_is p (length mem.made) ty x r)
    (λ named any. record { memory = m; frames = tt })

returns_to_safe : (p : ProgramData) → IsProgram p → (mem : MemoryData) (returns : Option Scalar) (o : Option (Val Sym)) (below : List Frame) → MemoryFits p mem → Wait p (length mem.made) returns below
    → IsResult p (length mem.made) returns o → Safe (NextFits p) (returns_to p mem o below)
returns_to_safe p program mem returns o [] m w r = root_returns_safe p mem returns o m r
returns_to_safe p program mem returns o (f ∷ below) m w r = resume_safe p program mem returns f below o f.rest refl m w.0 w.1 w.2 r

-- A return with a value just where the function returns one, and of its type.
pub returns_safe : (p : ProgramData) → IsProgram p → (at : Point) (t : Option Scalar) (o : Option (Val Sym)) → (h : AtTerm p at) → h.end.fits.func.returns ≡ t → IsResult p (length at.memory.made) t o → Safe (NextFits p) (returns p at o)
returns_safe p program at t o h e r =
    let mem = at.memory in
    let new = end_all at.frame.allocas mem in
    let returned = returns_at p at.frame.func in
    let still = end_all_keeps p at.frame.allocas mem h.memory in
    let same : returned ≡ t = returns_is p at.frame.func h.end.fits.func h.end.fits.is ∙ e in
    let result : IsResult p (length new.made) returned o = subst (λ n. IsResult p n returned o) (sym still.same_made) (subst (λ t. IsResult p (length mem.made) t o) (sym same) r) in
    returns_to_safe p program new returned o at.below still.fits (subst (λ n. Wait p n returned at.below) (sym still.same_made) h.waits) result
