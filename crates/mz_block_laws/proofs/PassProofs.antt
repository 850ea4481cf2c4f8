-- Over no steps, and over steps one after another.
use Rattle.std.proofs.Common.{◌≡◌, ◌≤◌, arith, List, [], ◌++◌, refl, sym, ap, ◌∙◌, subst, append_assoc}
use Rattle.std.proofs.lemmas.List.{append-nil}
use Rattle.mz_logic.specs.Formula.{Formula}
use Rattle.mz_logic.specs.Derives.{Derives}
use Rattle.mz_logic.proofs.Each.{Each, cut_each, each_itself, each_append, each_left}
use Rattle.mz_core.specs.Statement.{Statement}
use Rattle.mz_core.specs.Erasure.{erase}
use Rattle.mz_core.proofs.LawProofs.{more_in_force}
use Rattle.mz_context.specs.Context.{next}
use Rattle.mz_context.specs.declared.context.Context.{Context}
use Rattle.mz_now.specs.Stated.{stated_by}
use Rattle.mz_now.specs.declared.now_part.NowPart.{NowPart}
use Rattle.mz_steps.specs.Changes.{with_stated}
use Rattle.mz_steps.specs.declared.block.Block.{Block}
use Rattle.mz_steps.specs.declared.block.Block.TheVariants.{Proof, Now}
use Rattle.mz_steps_laws.specs.Facts.{facts}
use Rattle.mz_steps_laws.specs.NowLaws.{StatesInForce}
use Rattle.mz_steps_laws.specs.HiddenLaws.{AllSaid}
use Rattle.mz_steps_laws.proofs.HiddenProofs.{more_said_law}
use Rattle.mz_steps_laws.proofs.StatedProofs.{stated_law}
use Rattle.mz_block_laws.specs.Orders.{Stands}
use Rattle.mz_block_laws.specs.Passing.{Leaves, Keeps, StatesClosed, Says, Passes}
use Rattle.mz_block_laws.specs.BlockLaws.{NoStepLaw, MoreStepsLaw, StatedPassesLaw, HeldPassesLaw}

nothing_said : (ax held : List Formula) (c : Context) (ps : List NowPart) → Says ax held c held c ps []
nothing_said ax held c ps = record {
  may_be_said = tt;
  in_force = λ behind said h. h;
  is_closed = λ behind h. h;
  sound = λ behind said h d. d;
}

pub no_step_law : NoStepLaw
no_step_law ax held c Proof = record {
  of_thesis = λ th is w. record { left = th; is_left = is; stands = w; sound = λ d. d };
  of_none = λ is. record { no_thesis = is; later = omega arith; sound = λ s w d. d };
}
no_step_law ax held c (Now ps) = ([], sym (append-nil ps), nothing_said ax held c ps)

-- what is left of what is left
left_further : (ax held : List Formula) (c : Context) (kept : List Formula) (d : Context) (last : List Formula) (e : Context) (th : Statement) (l : Leaves ax held c kept d th) → Leaves ax kept d last e l.left → Leaves ax held c last e th
left_further ax held c kept d last e th l m = record {
  left = m.left;
  is_left = m.is_left;
  stands = m.stands;
  sound = λ x. l.sound (m.sound x);
}

kept_further : (ax held : List Formula) (c : Context) (kept : List Formula) (d : Context) (last : List Formula) (e : Context) → Keeps ax held c kept d → Keeps ax kept d last e → Keeps ax held c last e
kept_further ax held c kept d last e k m =
    let le : next c ≤ next d = k.later in
    let up : next d ≤ next e = m.later in
    record {
      no_thesis = m.no_thesis;
      later = omega (arith, le, up);
      sound = λ s w x. k.sound s w (m.sound s (more_in_force (next c) (next d) s le w.0, w.1) x);
    }

-- what is said behind what was said
split : (ps qs rs xs : List NowPart) → AllSaid (ps ++ (qs ++ rs)) xs → AllSaid ((ps ++ qs) ++ rs) xs
split ps qs rs xs said = subst (λ ys. AllSaid ys xs) (sym (append_assoc ps qs rs)) said

onward : (ps qs rs xs : List NowPart) → AllSaid (ps ++ qs) rs → AllSaid (ps ++ (qs ++ rs)) xs → AllSaid (ps ++ qs) (rs ++ xs)
onward ps qs rs xs may said = more_said_law (ps ++ qs) rs xs may (split ps qs rs xs said)

said_further : (ax held : List Formula) (c : Context) (kept : List Formula) (d : Context) (last : List Formula) (e : Context) (ps qs rs : List NowPart) → Says ax held c kept d ps qs → Says ax kept d last e (ps ++ qs) rs → Says ax held c last e ps (qs ++ rs)
said_further ax held c kept d last e ps qs rs l m = record {
  may_be_said = more_said_law ps qs rs l.may_be_said m.may_be_said;
  in_force = λ behind said h.
      subst (StatesInForce (next c)) (sym (append_assoc qs rs behind)) (l.in_force (rs ++ behind) (onward ps qs rs behind m.may_be_said said) (m.in_force behind (split ps qs rs behind said) h));
  is_closed = λ behind h. subst StatesClosed (sym (append_assoc qs rs behind)) (l.is_closed (rs ++ behind) (m.is_closed behind h));
  sound = λ behind said h x.
      subst (λ xs. Derives ax (facts c ++ held) (erase (stated_by xs))) (sym (append_assoc qs rs behind))
      (l.sound (rs ++ behind) (onward ps qs rs behind m.may_be_said said) (m.in_force behind (split ps qs rs behind said) h) (m.sound behind (split ps qs rs behind said) h x));
}

pub more_steps_law : MoreStepsLaw
more_steps_law ax held c kept d last e Proof Proof Proof p q = record {
  of_thesis = λ th is w. let l : Leaves ax held c kept d th = p.of_thesis th is w in left_further ax held c kept d last e th l (q.of_thesis l.left l.is_left l.stands);
  of_none = λ is. let k : Keeps ax held c kept d = p.of_none is in kept_further ax held c kept d last e k (q.of_none k.no_thesis);
}
more_steps_law ax held c kept d last e Proof Proof (Now zs) p q = absurd q
more_steps_law ax held c kept d last e Proof (Now ys) z p q = absurd p
more_steps_law ax held c kept d last e (Now xs) Proof z p q = absurd p
more_steps_law ax held c kept d last e (Now xs) (Now ys) Proof p q = absurd q
more_steps_law ax held c kept d last e (Now xs) (Now ys) (Now zs) p q = (
  p.0 ++ q.0,
  q.1 ∙ ap (λ ws. ws ++ q.0) p.1 ∙ append_assoc xs p.0 q.0,
  said_further ax held c kept d last e xs p.0 q.0 p.2 (subst (λ ws. Says ax kept d last e ws q.0) p.1 q.2),
)

-- other premises at the end
left_otherwise : (ax held : List Formula) (c : Context) (kept : List Formula) (d : Context) (last : List Formula) (e : Context) (th : Statement) → e.thesis ≡ d.thesis → next e ≡ next d → Each ax (facts d ++ kept) (facts e ++ last) → Leaves ax held c kept d th → Leaves ax held c last e th
left_otherwise ax held c kept d last e th same same_next each l = record {
  left = l.left;
  is_left = same ∙ l.is_left;
  stands = subst (λ n. Stands n l.left) (sym same_next) l.stands;
  sound = λ x. l.sound (cut_each ax (facts d ++ kept) (facts e ++ last) (erase l.left) each x);
}

kept_otherwise : (ax held : List Formula) (c : Context) (kept : List Formula) (d : Context) (last : List Formula) (e : Context) → e.thesis ≡ d.thesis → next e ≡ next d → Each ax (facts d ++ kept) (facts e ++ last) → Keeps ax held c kept d → Keeps ax held c last e
kept_otherwise ax held c kept d last e same same_next each k =
    let le : next c ≤ next d = k.later in
    record {
      no_thesis = same ∙ k.no_thesis;
      later = omega (arith, le, same_next);
      sound = λ s w x. k.sound s w (cut_each ax (facts d ++ kept) (facts e ++ last) (erase s) each x);
    }

said_otherwise : (ax held : List Formula) (c : Context) (kept : List Formula) (d : Context) (last : List Formula) (e : Context) (ps qs : List NowPart) → next e ≡ next d → Each ax (facts d ++ kept) (facts e ++ last) → Says ax held c kept d ps qs → Says ax held c last e ps qs
said_otherwise ax held c kept d last e ps qs same_next each l =
    let down : (behind : List NowPart) → StatesInForce (next e) behind → StatesInForce (next d) behind = λ behind h. subst (λ n. StatesInForce n behind) same_next h in
    record {
      may_be_said = l.may_be_said;
      in_force = λ behind said h. l.in_force behind said (down behind h);
      is_closed = l.is_closed;
      sound = λ behind said h x. l.sound behind said (down behind h) (cut_each ax (facts d ++ kept) (facts e ++ last) (erase (stated_by behind)) each x);
    }

pub passes_otherwise : (ax held : List Formula) (c : Context) (kept : List Formula) (d : Context) (last : List Formula) (e : Context) (b x : Block) → e.thesis ≡ d.thesis → next e ≡ next d → Each ax (facts d ++ kept) (facts e ++ last) → Passes ax held c b kept d x → Passes ax held c b last e x
passes_otherwise ax held c kept d last e Proof Proof same same_next each p = record {
  of_thesis = λ th is w. left_otherwise ax held c kept d last e th same same_next each (p.of_thesis th is w);
  of_none = λ is. kept_otherwise ax held c kept d last e same same_next each (p.of_none is);
}
passes_otherwise ax held c kept d last e Proof (Now ys) same same_next each p = absurd p
passes_otherwise ax held c kept d last e (Now xs) Proof same same_next each p = absurd p
passes_otherwise ax held c kept d last e (Now xs) (Now ys) same same_next each p = (p.0, p.1, said_otherwise ax held c kept d last e xs p.0 same_next each p.2)

pub stated_passes_law : StatedPassesLaw
stated_passes_law ax held c kept d b x p ps stated last all =
    let g : List Formula = facts d ++ kept in
    passes_otherwise ax held c kept d last (with_stated d ps) b x refl refl
    (each_append ax g (facts (with_stated d ps)) last (stated_law ax g d ps (each_left ax g (facts d) kept (each_itself ax g)) stated) all) p

-- more premises at the start
each_and_more : (ax held : List Formula) (c : Context) (more : List Formula) → Each ax (facts c ++ held) more → Each ax (facts c ++ held) (facts c ++ more)
each_and_more ax held c more all = each_append ax (facts c ++ held) (facts c) more (each_left ax (facts c ++ held) (facts c) held (each_itself ax (facts c ++ held))) all

left_with : (ax held : List Formula) (c : Context) (kept : List Formula) (d : Context) (more : List Formula) → Each ax (facts c ++ held) more → (th : Statement) → Leaves ax more c kept d th → Leaves ax held c kept d th
left_with ax held c kept d more all th l = record {
  left = l.left;
  is_left = l.is_left;
  stands = l.stands;
  sound = λ x. cut_each ax (facts c ++ held) (facts c ++ more) (erase th) (each_and_more ax held c more all) (l.sound x);
}

kept_with : (ax held : List Formula) (c : Context) (kept : List Formula) (d : Context) (more : List Formula) → Each ax (facts c ++ held) more → Keeps ax more c kept d → Keeps ax held c kept d
kept_with ax held c kept d more all k = record {
  no_thesis = k.no_thesis;
  later = k.later;
  sound = λ s w x. cut_each ax (facts c ++ held) (facts c ++ more) (erase s) (each_and_more ax held c more all) (k.sound s w x);
}

pub held_passes_law : HeldPassesLaw
held_passes_law ax held c kept d Proof Proof more all p = record {
  of_thesis = λ th is w. left_with ax held c kept d more all th (p.of_thesis th is w);
  of_none = λ is. kept_with ax held c kept d more all (p.of_none is);
}
held_passes_law ax held c kept d Proof (Now ys) more all p = absurd p
held_passes_law ax held c kept d (Now xs) Proof more all p = absurd p
held_passes_law ax held c kept d (Now xs) (Now ys) more all p =
    let l : Says ax more c kept d xs p.0 = p.2 in (
      p.0,
      p.1,
      record {
        may_be_said = l.may_be_said;
        in_force = l.in_force;
        is_closed = l.is_closed;
        sound = λ behind said h x. cut_each ax (facts c ++ held) (facts c ++ more) (erase (stated_by (p.0 ++ behind))) (each_and_more ax held c more all) (l.sound behind said h x);
      },
    )
