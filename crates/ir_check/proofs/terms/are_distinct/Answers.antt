use Rattle.std.proofs.Common.{◌≡◌, map, sym, ◌∙◌, rules}
use Rattle.std.specs.Cmp.{nat_cmp_total}
use Rattle.std.proofs.lemmas.Iterator.{YieldsList-from_slice, YieldsList-from_map, items_from_drains}
use Rattle.std.proofs.lemmas.List.{map-id}
use Rattle.std.proofs.lemmas.Map.Views.{btree_set_len-from_list}
use Rattle.ir_check.proofs.Cases.{distinct_cases}
use Rattle.ir_check.proofs.terms.are_distinct.Goals as goal

pub returns : goal.returns
returns c =
    let ran = c.in_ok-seen.ensures.ran in
    let items : ran.0 ≡ map (λ case. case.0) c.args.cases.now =
    sym (map-id ran.0) ∙ items_from_drains ran.0 ran.1 (YieldsList-from_map _ (λ case. case.0) (YieldsList-from_slice c.args.cases.now cc) c.map.ensures.closure (λ x r q k. search rules)) in
    distinct_cases c.args.cases.now ran.0 c.len.result (c.len.ensures.len ∙ btree_set_len-from_list nat_cmp_total ran.0 c.in_ok-seen.seen ran.2) items
