use Rattle.std.proofs.lemmas.Result.{on_ok_weaker}
use Rattle.linker.proofs.Grouping.{placed_found, placed_added}
use Rattle.linker.proofs.groups.Groups.add.Goals as goal

pub returns-in-Found : goal.returns-in-Found
returns-in-Found c = on_ok_weaker c.add_to.result (λ made symbols h. placed_found symbols c.args.name.now c.args.symbol c.args.self.now.names c.find_or_add.new.self c.args.self.now.groups.items c.add_to.new.groups.items c.in_ok-place.field-0 c.in-Found.place c.in-Found.is c.in_ok-place.ensures.ok made h) c.add_to.ensures

pub returns-in_ok-push-in-Added : goal.returns-in_ok-push-in-Added
returns-in_ok-push-in-Added c = λ symbols h. placed_added symbols c.args.name.now c.args.symbol c.args.self.now.names c.find_or_add.new.self c.args.self.now.groups.items c.push.new.self.items c.new-others.result c.in_ok-place.field-0 c.in-Added.field-0 c.in-Added.is c.in_ok-place.ensures.ok c.new-others.ensures c.in_ok-push-in-Added.ensures.items h
