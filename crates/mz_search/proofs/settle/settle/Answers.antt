use Rattle.std.proofs.Common.{◌≡◌, ◌<◌, ◌∙◌, ◌∷◌, arith, map, sym}
use Rattle.mz_search.specs.Goals.{known, goal_of, sizes}
use Rattle.mz_search.specs.States.{state_of, IsNext}
use Rattle.mz_search.proofs.SettleLemmas.{start_reached, pop_reached, pop_sizes, choice_reached, next_reached, none_left}
use Rattle.mz_search.proofs.settle.settle.Goals as goal

pub goals-init : goal.goals-init
goals-init c = start_reached (known c.args.table.now c.args.values.now c.args.universals.now) (state_of c.args.state) c.requires

pub choose-requires : goal.choose-requires
choose-requires c = (pop_reached (known c.args.table.now c.args.values.now c.args.universals.now) (state_of c.args.state) c.goals.now.goals.items c.pop.new.self.items c.in-Some.last c.goals.now.assignment c.goals.invariant c.in-Some.ensures.items).within

pub returns-in-None : goal.returns-in-None
returns-in-None c =
    none_left (known c.args.table.now c.args.values.now c.args.universals.now) (state_of c.args.state) c.goals.now.goals.items c.goals.now.assignment c.goals.invariant (sym c.goals.now.goals.ok.0 ∙ c.in-None.ensures.cases.0)

pub returns-then-len-ne1 : goal.returns-then-len-ne1
returns-then-len-ne1 c = choice_reached (known c.args.table.now c.args.values.now c.args.universals.now) (state_of c.args.state) (goal_of c.in-Some.last ∷ map goal_of c.pop.new.self.items, c.goals.now.assignment) c.in_ok-choice-in-Some.choice (pop_reached (known c.args.table.now c.args.values.now c.args.universals.now) (state_of c.args.state) c.goals.now.goals.items c.pop.new.self.items c.in-Some.last c.goals.now.assignment c.goals.invariant c.in-Some.ensures.items) c.in_ok-choice-in-Some.ensures

pub goals-smaller : goal.goals-smaller
goals-smaller c =
    let n : IsNext (known c.args.table.now c.args.values.now c.args.universals.now) (goal_of c.in-Some.last ∷ map goal_of c.pop.new.self.items, c.goals.now.assignment) (state_of c.in_ok-now-in-Some.now) = c.in_ok-now-in-Some.ensures (known c.args.table.now c.args.values.now c.args.universals.now) (goal_of c.in-Some.last ∷ map goal_of c.pop.new.self.items, c.goals.now.assignment) c.in_ok-choice-in-Some.ensures in
    let lt : sizes (map goal_of c.in_ok-now-in-Some.now.goals.items) < sizes (goal_of c.in-Some.last ∷ map goal_of c.pop.new.self.items) = n.smaller in
    let e : sizes (map goal_of c.goals.now.goals.items) ≡ sizes (goal_of c.in-Some.last ∷ map goal_of c.pop.new.self.items) = pop_sizes c.goals.now.goals.items c.pop.new.self.items c.in-Some.last c.in-Some.ensures.items in
    omega (arith, lt, e)

pub goals-preserved : goal.goals-preserved
goals-preserved c = next_reached (known c.args.table.now c.args.values.now c.args.universals.now) (state_of c.args.state) (goal_of c.in-Some.last ∷ map goal_of c.pop.new.self.items, c.goals.now.assignment) (state_of c.in_ok-now-in-Some.now) (pop_reached (known c.args.table.now c.args.values.now c.args.universals.now) (state_of c.args.state) c.goals.now.goals.items c.pop.new.self.items c.in-Some.last c.goals.now.assignment c.goals.invariant c.in-Some.ensures.items) (c.in_ok-now-in-Some.ensures (known c.args.table.now c.args.values.now c.args.universals.now) (goal_of c.in-Some.last ∷ map goal_of c.pop.new.self.items, c.goals.now.assignment) c.in_ok-choice-in-Some.ensures)
