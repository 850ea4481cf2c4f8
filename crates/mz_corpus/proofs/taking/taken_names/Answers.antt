use Rattle.std.proofs.Common.{◌≡◌, ◌++◌, List, [], ap, ◌∙◌, subst, sym, append-nil}
use Rattle.std.specs.Prelude.{Contains}
use Rattle.mz_base.specs.declared.name.Name.{Name}
use Rattle.mz_corpus.specs.Dependents.{rows_at}
use Rattle.mz_corpus.specs.Names.{with_name}
use Rattle.mz_corpus.specs.Order.{Takes, end}
use Rattle.mz_corpus.specs.Taking.{AreReady, with_rows}
use Rattle.mz_corpus.proofs.OrderLemmas.{turn_takes, turn_less}
use Rattle.mz_corpus.proofs.TakingLemmas.{AreReady-start, AreReady-turn, IsFirstReady-popped, NoneReady-empty}
use Rattle.mz_corpus.proofs.taking.taken_names.Goals as goal

pub look_at-requires-clause-rows : goal.look_at-requires-clause-rows
look_at-requires-clause-rows c = λ r held. c.in_ok-rows.ensures.within r (subst (λ xs. Contains xs r) (c.as_slice.ensures.value ∙ c.rows.view_is) held)

pub loop-name-init : goal.loop-name-init
loop-name-init c =
    let taken : c.look_at.new.self.taken ≡ [] = c.in_ok-look_at.ensures.taken ∙ c.in_ok-taking.ensures.taken in
    let ready : c.look_at.new.self.ready ≡ with_rows c.args.articles.now [] [] c.as_slice.result.now = c.in_ok-look_at.ensures.ready ∙ (λ i. with_rows c.args.articles.now (c.in_ok-taking.ensures.taken i) (c.in_ok-taking.ensures.ready i) c.as_slice.result.now) in
    record {
      so_far = λ ns. subst (λ ts. Takes c.args.articles.now ts ns → Takes c.args.articles.now [] (ts ++ ns)) (sym taken) (λ h. h);
      ready =
          subst (λ ts. AreReady c.args.articles.now ts c.look_at.new.self.ready) (sym taken)
          (AreReady-start c.args.articles.now c.look_at.new.self.ready c.as_slice.result.now ready (λ r lt. subst (λ xs. Contains xs r) (sym (c.as_slice.ensures.value ∙ c.rows.view_is)) (c.in_ok-rows.ensures.all r lt)));
      seen = c.in_ok-look_at.ensures.seen;
    }

pub loop-name-smaller : goal.loop-name-smaller
loop-name-smaller c =
    let popped = c.in-Some.ensures in
    turn_less c.args.articles.now c.loop-name.taking.taken c.take.new.self.taken c.in-Some.name (IsFirstReady-popped c.args.articles.now c.loop-name.taking.taken c.loop-name.taking.ready _ c.in-Some.name c.loop-name.invariant.ready popped.0 popped.1)
    (c.in_ok-take.ensures.taken ∙ ap (λ ts. with_name ts c.in-Some.name) popped.2)

pub loop-name-preserved : goal.loop-name-preserved
loop-name-preserved c =
    let popped = c.in-Some.ensures in
    let after : c.take.new.self.taken ≡ with_name c.loop-name.taking.taken c.in-Some.name = c.in_ok-take.ensures.taken ∙ ap (λ ts. with_name ts c.in-Some.name) popped.2 in
    record {
      so_far =
          turn_takes c.args.articles.now c.loop-name.taking.taken c.take.new.self.taken c.in-Some.name (IsFirstReady-popped c.args.articles.now c.loop-name.taking.taken c.loop-name.taking.ready _ c.in-Some.name c.loop-name.invariant.ready popped.0 popped.1) after
          c.loop-name.invariant.so_far;
      ready =
          subst (λ ts. AreReady c.args.articles.now ts c.take.new.self.ready) (sym after)
          (AreReady-turn c.args.articles.now c.loop-name.taking.taken c.loop-name.taking.ready _ c.take.new.self.ready c.in-Some.name (rows_at c.in_ok-dependents.dependents.rows c.in-Some.name.number) c.loop-name.invariant.ready popped.0 popped.1
          (λ r a at held. c.in_ok-dependents.ensures.each r a c.in-Some.name at held)
          (c.in_ok-take.ensures.ready ∙ ap (λ ts. with_rows c.args.articles.now (with_name ts c.in-Some.name) c.pop.new.self.ready (rows_at c.in_ok-dependents.dependents.rows c.in-Some.name.number)) popped.2));
      seen = c.in_ok-take.ensures.seen;
    }

pub returns : goal.returns
returns c =
    let same : c.taking-2.inside.taken ≡ c.loop-name.taking.taken = ap (λ t. t.taken) (c.taking-2.view_is ∙ c.in_default.ensures.1) in
    subst (λ ts. Takes c.args.articles.now [] ts) (append-nil c.loop-name.taking.taken ∙ sym same)
    (c.loop-name.invariant.so_far [] (end c.loop-name.taking.taken (NoneReady-empty c.args.articles.now c.loop-name.taking.taken c.loop-name.taking.ready c.loop-name.invariant.ready c.in_default.ensures.0)))
