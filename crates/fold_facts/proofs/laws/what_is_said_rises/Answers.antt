use Rattle.fold_facts.proofs.Reaching.{reached_rises}
use Rattle.fold_facts.proofs.Rising.{phi_rises, inst_rises, term_rises}
use Rattle.fold_facts.proofs.laws.what_is_said_rises.Goals as goal

pub returns : goal.returns
returns c = record {
  phis = λ setting a b place phi less. phi_rises setting a b less place phi;
  insts = λ setting a b i less. inst_rises setting a.facts b.facts less.facts i;
  terms = λ setting a b term k less. term_rises setting a.facts b.facts less.facts term k;
  blocks = λ a b place less. reached_rises a b less place;
}
