-- The start of the search: nothing is reached but the first block.
use Rattle.std.proofs.Common.{◌≡◌, ◌∙◌, inl, inr, ℕ, zero, suc, ◌+◌, ◌<◌, true, List, [], ◌∷◌, ◌++◌, Option, None, Some, length, map, drop, get_or, refl, sym, ap, subst}
use Rattle.std.specs.Prelude.{slice_get, Contains, IfSome, IsTrue}
use Rattle.std.proofs.lemmas.Bool.{false≢true}
use Rattle.std.proofs.lemmas.List.{length-map}
use Rattle.std.proofs.lemmas.Option.{none-some, slice_get-get_or}
use Rattle.ir_types.specs.declared.scalar.Known.{Known}
use Rattle.ir_types.specs.Scalars.{is_number_of}
use Rattle.ir_types.proofs.ListSteps.{All-at}
use Rattle.ir_syntax.specs.declared.body.Block.{Block}
use Rattle.ir_syntax.specs.declared.body.Body.{Body}
use Rattle.ir_syntax.specs.declared.body.Term.{Term as Terminator}
use Rattle.ir_syntax.specs.declared.body.Term.TheVariants as term
use Rattle.ir_syntax.specs.declared.item.Func.{Func}
use Rattle.ir_syntax.specs.Edges.{successors}
use Rattle.ir_syntax.specs.FormedBody.{Places, FormedTerm, FormedBlock, FormedBody, places_of}
use Rattle.ir_syntax.specs.SoundFunctions.{IsSoundFunction}
use Rattle.fold_facts.specs.declared.fact.Fact.TheVariants.{Unreached}
use Rattle.fold_facts.specs.Operands.{Setting}
use Rattle.fold_facts.specs.Places.{blocks_in, blocks_of}
use Rattle.fold_facts.specs.OfFunction.{AreKnownOf}
use Rattle.fold_facts.specs.Raising.{blank}
use Rattle.fold_facts.proofs.Lists.{some_is, there, get_map, of_map}
use Rattle.fold_facts.proofs.Reaching.{entered, reached_by}
use Rattle.fold_facts.proofs.Settling.{blank_fits, blank_least, not_reached}
use Rattle.fold_facts.proofs.Suiting.{few_results, all_suit}
use Rattle.fold_sparse.specs.declared.look.Look.{Look}
use Rattle.fold_sparse.specs.declared.look.Look.TheVariants.{Entry, Value, Term}
use Rattle.fold_sparse.specs.declared.standing.Standing.{Standing}
use Rattle.fold_sparse.specs.declared.standing.Standing.TheVariants.{Unopened, Queued, Idle}
use Rattle.fold_sparse.specs.Groups.{members, group_at, AreGrouped}
use Rattle.fold_sparse.specs.Looks.{looks_of, is_active, home, homes_from}
use Rattle.fold_sparse.specs.Solving.{IsSolving, is_queued, is_idle, HasTargets}
use Rattle.fold_sparse.specs.Looking.{IsSound}
use Rattle.fold_sparse.proofs.Lists.{assoc, drop_get}
use Rattle.fold_sparse.proofs.Opening.{in_none}
use Rattle.fold_sparse.proofs.Keys.{first_in, key_in_all}

abbrev pub First : List Block → List ℕ
First blocks = members (homes_from 0 (looks_of blocks)) 0

first_home : (blocks : List Block) (look : Look) → is_active (blank blocks Unreached) look ≡ true → Contains (home look) 0
first_home blocks (Entry at from phi entry number) h =
    let edge = entered (blank blocks Unreached) from at h in
    absurd (not_reached blocks Unreached from edge.0 at edge.1)
first_home blocks (Value at k number) h = elim (reached_by (blank blocks Unreached) at h) [
  | inl first ↦ subst (λ n. Contains (n ∷ []) 0) (sym first) (first_in 0 [])
  | inr (f, j, g) ↦ absurd (not_reached blocks Unreached f j at g)
]
first_home blocks (Term at) h = elim (reached_by (blank blocks Unreached) at h) [
  | inl first ↦ subst (λ n. Contains (n ∷ []) 0) (sym first) (first_in 0 [])
  | inr (f, j, g) ↦ absurd (not_reached blocks Unreached f j at g)
]

pub start_solving : (setting : Setting) (blocks : List Block) → IsSolving setting blocks (blank blocks Unreached) (map (λ look. Unopened) (looks_of blocks)) [] (First blocks) []
start_solving setting blocks = record {
  fits = blank_fits blocks Unreached (λ ty. tt);
  below = λ other closed. blank_least blocks other;
  long = length-map (looks_of blocks) (λ look. Unopened);
  opened = λ l look is. inl (get_map (λ k. Unopened) (looks_of blocks) l look is);
  seen = λ l look is on un. key_in_all home (looks_of blocks) l look 0 is (first_home blocks look on);
  waits = λ l at. let u = of_map (λ k. Unopened) (looks_of blocks) l Queued at in absurd (false≢true (ap (λ s. is_queued (Some s)) u.2));
  met = λ l look is at. let u = of_map (λ k. Unopened) (looks_of blocks) l Idle at in absurd (false≢true (ap (λ s. is_idle (Some s)) u.2));
}

-- ---- the function

formed_targets : (places : Places) (t : Terminator) → FormedTerm places t → (k to : ℕ) → slice_get (successors t) k ≡ Some to → to < places.blocks
formed_targets places term.RetVoid h k to is = absurd (none-some to is)
formed_targets places (term.Ret ty value) h k to is = absurd (none-some to is)
formed_targets places (term.Br one) h zero to is = subst (λ n. n < places.blocks) (some_is is) h
formed_targets places (term.Br one) h (suc k) to is = absurd (none-some to is)
formed_targets places (term.CondBr c one other) h zero to is = subst (λ n. n < places.blocks) (some_is is) h.1
formed_targets places (term.CondBr c one other) h (suc zero) to is = subst (λ n. n < places.blocks) (some_is is) h.2
formed_targets places (term.CondBr c one other) h (suc (suc k)) to is = absurd (none-some to is)
formed_targets places (term.Switch ty value default cases) h zero to is = subst (λ n. n < places.blocks) (some_is is) h.1
formed_targets places (term.Switch ty value default cases) h (suc k) to is =
    let case = of_map (λ case. case.1) cases k to is in
    subst (λ n. n < places.blocks) case.2 (All-at (λ (c : ℕ × ℕ). IsTrue (is_number_of ty c.0) × (c.1 < places.blocks)) cases k case.0 h.2 case.1).1
formed_targets places term.Unreachable h k to is = absurd (none-some to is)

pub function_sound : (func : Func) (known : List Known) → AreKnownOf func known → IsSoundFunction func → IsSound (record { known = known }) (blocks_of func)
function_sound func known are sound = record {
  few = few_results func sound;
  typed = all_suit func known are sound;
  targets = λ k d less. by func.body refl k (get_or (blocks_of func) k d) (slice_get-get_or (blocks_of func) k d less);
}
  where
    by : (o : Option Body) → func.body ≡ o → (place : ℕ) (block : Block) → slice_get (blocks_in o) place ≡ Some block → HasTargets (blocks_in o) block.term
    by None e place block at = absurd (none-some block at)
    by (Some body) e place block at =
        let formed : FormedBody sound.items (length func.params) body = subst (λ o. IfSome o (FormedBody sound.items (length func.params))) e sound.formed.has_body in
        let one : FormedBlock (places_of sound.items (length func.params) body) block = All-at (FormedBlock (places_of sound.items (length func.params) body)) body.blocks place block formed.has_blocks at in
        formed_targets (places_of sound.items (length func.params) body) block.term one.term

-- ---- what stands so far

pub standing_next : (looks : List Look) (i : ℕ) (before after whole : List Standing) → i < length looks → after ≡ before ++ Unopened ∷ [] → before ++ map (λ look. Unopened) (drop i looks) ≡ whole
    → after ++ map (λ look. Unopened) (drop (i + 1) looks) ≡ whole
standing_next looks i before after whole less made h =
    let look = there looks i less in
    ap (λ s. s ++ map (λ k. Unopened) (drop (i + 1) looks)) made ∙ assoc before (Unopened ∷ []) (map (λ k. Unopened) (drop (i + 1) looks))
    ∙ ap (λ l. before ++ map (λ k. Unopened) l) (sym (drop_get looks i look.0 look.1)) ∙ h

-- The group of the first block has its looks; a declaration has none.
pub first_group : (func : Func) → IsSoundFunction func → (groups : List (List ℕ)) (group : List ℕ) → AreGrouped groups (length (blocks_of func)) (homes_from 0 (looks_of (blocks_of func))) → group ≡ group_at groups 0
    → (x : ℕ) → Contains (First (blocks_of func)) x → Contains group x
first_group func sound groups group grouped is = by func.body refl grouped
  where
    by : (o : Option Body) → func.body ≡ o → AreGrouped groups (length (blocks_in o)) (homes_from 0 (looks_of (blocks_in o))) → (x : ℕ) → Contains (First (blocks_in o)) x → Contains group x
    by None e g x h = absurd (in_none x h)
    by (Some body) e g x h =
        let formed : FormedBody sound.items (length func.params) body = subst (λ o. IfSome o (FormedBody sound.items (length func.params))) e sound.formed.has_body in
        subst (λ l. Contains l x) (sym (is ∙ g 0 formed.has_block)) h
