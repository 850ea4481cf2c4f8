use Rattle.std.proofs.Common.{◌∙◌, ◌∷◌, [], ◌++◌, cond, ap, sym, append-nil}
use Rattle.mz_lex.proofs.TableLemmas.{knows_more, firsts_more}
use Rattle.mz_lex.proofs.table.each_once.Goals as goal
use Rattle.mz_lex.proofs.table.each_once.Goals.{then-first+in_ok-push, else-first}

pub loop-name-preserved : goal.loop-name-preserved
loop-name-preserved c =
    let more = firsts_more _ _ _ c.loop-name.found.items c.if-first.found.items _ _ c.loop-name-test.true c.name-item.is c.loop-name.invariant.found c.in_ok-first.ensures.first (c.loop-name.invariant.seen c.name-item.result.name.number) in
    record {
      seen = knows_more _ _ _ c.loop-name.seen c.note.new.seen c.loop-name-test.true c.name-item.is c.loop-name.invariant.seen c.in_ok-first.ensures.noted;
      found =
          elim c.if-first.branch [
            | then-first+in_ok-push w ↦ more (ap (λ v. v.items) w.found-is ∙ w.in_ok-push.ensures.items ∙ ap (λ t. c.loop-name.found.items ++ cond t (c.name-item.result ∷ []) []) (sym w.if-first.true))
            | else-first w ↦ more (ap (λ v. v.items) w.found-is ∙ sym (append-nil c.loop-name.found.items) ∙ ap (λ t. c.loop-name.found.items ++ cond t (c.name-item.result ∷ []) []) (sym w.if-first.false))
          ];
    }
