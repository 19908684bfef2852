use Rattle.std.proofs.Common.{◌≡◌, ◌∙◌, length, take, ap, arith}
use Rattle.std.proofs.Math.Seq.{take-length}
use Rattle.std.specs.Prelude.{List}
use Rattle.type_names.specs.declared.named.NamedType.{NamedType}
use Rattle.type_names.specs.TypeNames.{is_type_entity}
use Rattle.type_names.specs.Written.{named_of, named, entities_from, type_entities}
use Rattle.type_names.proofs.Deciding.{entities_pushed, same_entity}
use Rattle.type_names.proofs.entities.type_entities.Goals as goal

pub loop-place-preserved : goal.loop-place-preserved
loop-place-preserved c =
    let types = c.args.types.now in
    let t = c.index-types-place.result in
    let answer : c.is_entity.result ≡ is_type_entity (named c.args.types.now) c.loop-place.place (named_of c.index-types-place.result) =
    c.is_entity.ensures ∙ same_entity types c.args.places.now.symbols c.args.scope.now.types c.loop-place.place t c.requires.places (c.requires.stand t.name) in
    entities_pushed types c.loop-place.place t c.loop-place.entities.items c.push.new.self.items c.is_entity.result (omega arith) c.index-types-place.is c.loop-place.invariant answer c.in_ok-push.ensures.items

pub returns : goal.returns
unfolding type_entities
returns c =
    let types = c.args.types.now in
    let all : c.loop-place.place ≡ length types = omega arith in
    c.loop-place.invariant ∙ ap (λ n. entities_from (named types) 0 (named (take n types))) all ∙ ap (λ (ts : List NamedType). entities_from (named types) 0 (named ts)) (take-length types)
