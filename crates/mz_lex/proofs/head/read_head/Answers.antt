use Rattle.std.proofs.Common.{refl, sym, ap, ◌∙◌, subst}
use Rattle.std.proofs.lemmas.Bool.{false≢true}
use Rattle.std.proofs.lemmas.List.{take_all}
use Rattle.mz_lex.specs.Head.{BreaksOff}
use Rattle.mz_lex.proofs.HeadLemmas.{turned, past_environ, past_begin, past_directive, past_name, past_comma, past_semicolon, past_later, past_other, breaks_off, token_refused, split_at_token, name_read}
use Rattle.mz_lex.proofs.head.read_head.Goals as goal
use Rattle.mz_lex.proofs.head.read_head.Goals.{in-Environ, in-Begin, in-Directive, in-Later, in-Name+in-Ok+in_ok-push-in-Ok, in-Comma, in-Semicolon+in_ok-add_directive-in-Semicolon, in-Other}

pub returns-in_default-clause-refused : goal.returns-in_default-clause-refused
returns-in_default-clause-refused c =
    rw c.fault_at.ensures (token_refused _ _ _ _ _ _ _ _ _ _ _ c.loop-token.invariant (split_at_token _ _ _ c.loop-token-test.true c.token-item.is) c.head_token_of-head_token.ensures c.in_default.ensures)

pub loop-token-preserved : goal.loop-token-preserved
loop-token-preserved c =
    elim c.match-head_token.branch [
      | in-Environ w ↦ turned _ _ _ _ _ _ _ _ _ _ _ _ c.loop-token-test.true c.token-item.is (past_environ _ _ _ _ _ _ _ _ _ c.loop-token.invariant c.head_token_of-head_token.ensures c.in-Some.ensures w.in-Environ.is) (ap (λ v. v.items) w.items-is) w.kind-is w.place-is (ap (λ v. v.items) w.names-is)
      | in-Begin w ↦ turned _ _ _ _ _ _ _ _ _ _ _ _ c.loop-token-test.true c.token-item.is (past_begin _ _ _ _ _ _ _ _ _ c.loop-token.invariant c.head_token_of-head_token.ensures c.in-Some.ensures w.in-Begin.is) (ap (λ v. v.items) w.items-is) w.kind-is w.place-is (ap (λ v. v.items) w.names-is)
      | in-Directive w ↦ turned _ _ _ _ _ _ _ _ _ _ _ _ c.loop-token-test.true c.token-item.is (past_directive _ _ _ _ _ _ _ _ _ c.loop-token.invariant c.head_token_of-head_token.ensures c.in-Some.ensures _ _ _ w.in-Directive.is refl w.new-names-in-Directive.ensures.items) (ap (λ v. v.items) w.items-is) w.kind-is w.place-is (ap (λ v. v.items) w.names-is)
      | in-Later w ↦ absurd (past_later _ _ _ _ _ _ _ _ _ c.loop-token.invariant c.head_token_of-head_token.ensures c.in-Some.ensures w.in-Later.is)
      | in-Name+in-Ok+in_ok-push-in-Ok w ↦ turned _ _ _ _ _ _ _ _ _ _ _ _ c.loop-token-test.true c.token-item.is (past_name _ _ _ _ _ _ _ _ _ c.loop-token.invariant c.head_token_of-head_token.ensures c.in-Some.ensures _ _ w.in-Name.is (rw w.as_slice.ensures at w.in-Ok.ensures.number) refl w.in_ok-push-in-Ok.ensures.items) (ap (λ v. v.items) w.items-is) w.kind-is w.place-is (ap (λ v. v.items) w.names-is)
      | in-Comma w ↦ turned _ _ _ _ _ _ _ _ _ _ _ _ c.loop-token-test.true c.token-item.is (past_comma _ _ _ _ _ _ _ _ _ c.loop-token.invariant c.head_token_of-head_token.ensures c.in-Some.ensures w.in-Comma.is) (ap (λ v. v.items) w.items-is) w.kind-is w.place-is (ap (λ v. v.items) w.names-is)
      | in-Semicolon+in_ok-add_directive-in-Semicolon w ↦ turned _ _ _ _ _ _ _ _ _ _ _ _ c.loop-token-test.true c.token-item.is (past_semicolon _ _ _ _ _ _ _ _ _ c.loop-token.invariant c.head_token_of-head_token.ensures c.in-Some.ensures _ _ _ w.in-Semicolon.is (ap (λ v. record { kind = c.loop-token.kind; place = c.loop-token.place; names = v.items }) w.replace-all.ensures.value) w.in_ok-add_directive-in-Semicolon.ensures) (ap (λ v. v.items) w.items-is) w.kind-is w.place-is (ap (λ v. v.items) w.names-is)
      | in-Other w ↦ absurd (past_other _ _ _ _ _ _ _ _ _ c.loop-token.invariant c.head_token_of-head_token.ensures c.in-Some.ensures w.in-Other.is)
    ]

pub returns-in-Err-clause-refused : goal.returns-in-Err-clause-refused
returns-in-Err-clause-refused c =
    let named = name_read _ (sym c.head_token_of-head_token.ensures ∙ c.in-Name.is) in
    absurd (false≢true (c.in-Err.ensures.ok.1 (rw c.as_slice.ensures named)))

pub returns-in_default-state : goal.returns-in_default-state
returns-in_default-state c =
    let all = take_all _ _ c.loop-token-test.false in
    record { head = tt; refused = (subst BreaksOff all (breaks_off _ _ _ _ _ _ c.loop-token.invariant c.in_default-state.not-AtEnd), refl) }
