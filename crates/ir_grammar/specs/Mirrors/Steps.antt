-- What contracts see of what a token does.
use Rattle.std.specs.Prelude.{List, ◌++◌, Option, option_map}
use Rattle.std.specs.Option.{option_to_list}
use Rattle.ir_grammar.specs.declared.grammar.Keep.{Keep}
use Rattle.ir_grammar.specs.declared.grammar.Item.{Item}
use Rattle.ir_grammar.specs.declared.rules.Rule.{Rule}
use Rattle.ir_grammar.specs.declared.rules.Step.{Step}
use Rattle.ir_grammar.specs.declared.stack.Settled.{Settled as RustSettled}
use Rattle.ir_grammar.specs.declared.stack.Settled.TheVariants as stack
use Rattle.ir_grammar.specs.declared.stack.Move.{Move}
use Rattle.ir_grammar.specs.declared.stack.Move.TheVariants as move
use Rattle.ir_grammar.specs.Mirrors.Walk.{Turn, Settled, Taken, AllLeft, Refused}

abbrev pub rule_of : Rule → Keep × List Item
rule_of rule = (rule.keep, rule.behind.now)

abbrev pub step_of : Step → Keep × List Item
step_of step = (step.keep, step.behind.now ++ (option_to_list step.then ++ step.last.now))

abbrev pub by_rule : Option Rule → Turn
by_rule rule = option_map rule_of rule

abbrev pub by_step : Option Step → Turn
by_step step = option_map step_of step

-- what an item does, where these come behind it and this is what they do
abbrev pub by_move : Move → List Item → Settled → Settled
by_move (move.Takes step again) items otherwise = Taken step.keep ((step_of step).1 ++ (option_to_list again ++ items))
by_move move.Leaves items otherwise = otherwise
by_move move.Refuses items otherwise = Refused

-- what contracts see of it, where the items are these then
abbrev pub settled_of : RustSettled → List Item → Settled
settled_of (stack.Taken kept_as) items = Taken kept_as items
settled_of stack.AllLeft items = AllLeft
settled_of stack.Refused items = Refused
