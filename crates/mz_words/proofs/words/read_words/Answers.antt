use Rattle.std.proofs.Common.{◌≡◌, ◌∙◌, ap, subst, map, string_bytes, List, [], Option, codes}
use Rattle.std.specs.Prelude.{unwrap_or}
use Rattle.clap.specs.Words.{App, all_of, app_of, fault_of, first_of, found_of, is_simple, is_simple_and_free, matches_of, one_of, rows_of, HasKind}
use Rattle.clap.proofs.WalkLemmas.{first_value-rows, one_text-rows, raw_values-rows}
use Rattle.mz_words.specs.Program.{program_app}
use Rattle.mz_words.proofs.ByteLemmas.{Text}
use Rattle.mz_words.proofs.EndLemmas.{answer_handed_on, answer_taken}
use Rattle.mz_words.proofs.RunLemmas.{program_is_free, program_is_simple}
use Rattle.mz_words.proofs.words.read_words.Goals as goal

pub returns-in_err-matches : goal.returns-in_err-matches
returns-in_err-matches c =
    let ws : List Text = map string_bytes c.args.words.now in
    let app : app_of c.in_ok-program.program ≡ program_app = c.in_ok-program.ensures in
    let e = c.in_err-matches.field-0.0 in
    let kind : HasKind (fault_of program_app ws) e = subst (λ (a : App). HasKind (fault_of a ws) e) app (c.in_err-matches.ensures.kinds (ap is_simple_and_free app ∙ program_is_free)) in
    answer_handed_on ws e c.from_residual-in_err-matches.result kind c.from_residual-in_err-matches.ensures.1

pub returns : goal.returns
returns c =
    let ws : List Text = map string_bytes c.args.words.now in
    let app : app_of c.in_ok-program.program ≡ program_app = c.in_ok-program.ensures in
    let found = found_of c.in_ok-matches.matches in
    let free : fault_of program_app ws ≡ [] = subst (λ (a : App). fault_of a ws ≡ []) app (c.in_ok-matches.ensures.kinds (ap is_simple_and_free app ∙ program_is_free)) in
    let rows : rows_of found ≡ matches_of program_app ws = (c.in_ok-matches.ensures.matches (ap is_simple app ∙ program_is_simple)).0 ∙ ap (λ (a : App). matches_of a ws) app in
    answer_taken ws _ _ _ _ c.order_with.result free (record {
      workers_is = c.get_str.ensures ∙ first_value-rows found (codes "workers") ∙ ap (first_of (codes "workers")) rows;
      generate_is = c.get_str-2.ensures ∙ first_value-rows found (codes "generate") ∙ ap (first_of (codes "generate")) rows;
      list_true = λ is. c.get_flag.ensures.value (one_text-rows found (codes "list") ∙ ap (one_of (codes "list")) rows ∙ is);
      list_false = λ is. c.get_flag.ensures.other (one_text-rows found (codes "list") ∙ ap (one_of (codes "list")) rows ∙ is);
      names_are = ap (λ (o : Option (List Text)). unwrap_or o []) (c.get_raw.ensures ∙ raw_values-rows found (codes "names") ∙ ap (all_of (codes "names")) rows);
    }) c.order_with.ensures
