use Rattle.mz_congruence.proofs.ClosingLemmas.{linked, linked_back}
use Rattle.mz_congruence.proofs.classes.union.Goals as goal

pub returns-then-a-b : goal.returns-then-a-b
returns-then-a-b c =
    let l = linked _ _ _ _ _ c.requires.descends c.requires.left c.requires.right c.root_of-a.ensures c.root_of-b.ensures c.if-a-b.true in
    record { len = l.len; descends = l.descends; progress = l.progress; united = l.united }

pub returns-then-b-a : goal.returns-then-b-a
returns-then-b-a c =
    let l = linked_back _ _ _ _ _ c.requires.descends c.requires.left c.requires.right c.root_of-a.ensures c.root_of-b.ensures c.if-b-a.true in
    record { len = l.len; descends = l.descends; progress = l.progress; united = l.united }
