-- what was laid so far, followed by what is left, is the whole
use Rattle.std.proofs.Common.{◌≡◌, ◌+◌, ◌*◌, ◌≤◌, IsTrue, length, map, drop}
use Rattle.ir_types.specs.Layout.{size, extent, end_from}
use Rattle.ir_syntax.specs.Suits.{suits, each_takes}
use Rattle.block_memory.specs.Mirrors.Laying.{IsLaidBefore, elements, fields_behind, items_in}
use Rattle.block_memory.proofs.LayingParts.{elements_suit}
use Rattle.block_memory.proofs.starts.+laying.Given as goal

abbrev pub invariant-lay_elements-loop-constant : goal.invariant-lay_elements-loop-constant
invariant-lay_elements-loop-constant l = record {
  laid : IsLaidBefore l.p l.home (elements l.element l.constants) (elements l.element (drop l.constant-index l.constants)) l.at l.place l.fn.parts l.parts;
  place : l.place ≡ l.at + l.constant-index * size l.element;
  long : length l.parts ≡ length l.fn.parts;
  suit : IsTrue (elements_suit (length (items_in l.p l.home)) l.element (drop l.constant-index l.constants));
}

abbrev pub invariant-lay_fields-loop-k : goal.invariant-lay_fields-loop-k
invariant-lay_fields-loop-k l = record {
  laid : IsLaidBefore l.p l.home (fields_behind 0 l.size l.constants l.fields) (fields_behind l.end l.size (drop l.k l.constants) (drop l.k l.fields)) l.at (l.at + l.end) l.fn.parts l.parts;
  long : length l.parts ≡ length l.fn.parts;
  suit : IsTrue (each_takes (map (suits (length (items_in l.p l.home))) (drop l.k l.constants)) (drop l.k l.fields));
  ends : end_from l.end (map extent (drop l.k l.fields)) ≡ end_from 0 (map extent l.fields);
  within : l.end ≤ l.size;
}
