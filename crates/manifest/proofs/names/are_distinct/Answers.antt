use Rattle.std.proofs.Common.{◌≡◌, length, nat_eq, ap, ◌∙◌}
use Rattle.std.specs.Set.{distinct_count}
use Rattle.std.specs.Prelude.{bytes_eq}
use Rattle.std.proofs.lemmas.Iterator.{YieldsList-from_slice, items_from_drains}
use Rattle.std.proofs.lemmas.Map.Views.{btree_set_len-from_list}
use Rattle.manifest.proofs.Apart.{by_name-total, distinct_count-names}
use Rattle.manifest.proofs.names.are_distinct.Goals as goal

pub returns : goal.returns
returns c =
    let ran = c.in_ok-seen.ensures.ran in
    let counted : c.len.result ≡ distinct_count bytes_eq c.args.names.now =
    c.len.ensures.len ∙ btree_set_len-from_list by_name-total ran.0 c.in_ok-seen.seen ran.2 ∙ distinct_count-names ran.0
    ∙ ap (distinct_count bytes_eq) (items_from_drains ran.0 ran.1 (YieldsList-from_slice c.args.names.now cc)) in
    ap (λ n. nat_eq n (length c.args.names.now)) counted
