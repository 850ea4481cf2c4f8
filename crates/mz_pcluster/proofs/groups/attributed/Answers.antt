use Rattle.std.proofs.Common.{false}
use Rattle.std.proofs.lemmas.Result.{err_from_is_err_and}
use Rattle.mz_forms.proofs.Words.{word_in_any, word_refuses}
use Rattle.mz_tree.specs.declared.word.Word.{Word}
use Rattle.mz_pterm.specs.declared.sign.Sign.TheVariants as signs
use Rattle.mz_pterm.specs.Words.{named, name}
use Rattle.mz_ptype.specs.Forms.{adjective_list_form}
use Rattle.mz_pcluster.specs.Forms.{behind_form}
use Rattle.mz_pcluster.proofs.Joined.{first_refused, second_refused, both_found}
use Rattle.mz_pcluster.proofs.GroupSteps.{attributed_2, joined_attributed_1, joined_attributed_2, attributed_seen}
use Rattle.mz_pcluster.proofs.groups.attributed.Goals as goal

pub returns-in_err-attribute : goal.returns-in_err-attribute
returns-in_err-attribute c =
    let p = err_from_is_err_and c.from_residual.result c.from_residual.ensures.1 in
    rw (p.1, p.2) (first_refused (name signs.Attribute) (λ _. attributed_2) joined_attributed_1 c.args.room _ _ _ (word_refuses Word (named signs.Attribute) c.args.room _ _ _ c.in_err-attribute.ensures))

pub returns-in_err-more : goal.returns-in_err-more
returns-in_err-more c =
    let p = err_from_is_err_and c.from_residual-in_err-more.result c.from_residual-in_err-more.ensures.1 in
    rw (p.1, p.2) (second_refused (name signs.Attribute) (λ _. attributed_2) joined_attributed_1 c.args.room _ _ _ (word_in_any Word (named signs.Attribute) c.args.room _ _ _ c.in_ok-attribute.ensures) _ _ (first_refused (adjective_list_form false) (λ _. behind_form) joined_attributed_2 c.args.room _ _ _ c.in_err-more.ensures))

pub returns-in_err-behind : goal.returns-in_err-behind
returns-in_err-behind c =
    let p = err_from_is_err_and c.from_residual-in_err-behind.result c.from_residual-in_err-behind.ensures.1 in
    rw (p.1, p.2) (second_refused (name signs.Attribute) (λ _. attributed_2) joined_attributed_1 c.args.room _ _ _ (word_in_any Word (named signs.Attribute) c.args.room _ _ _ c.in_ok-attribute.ensures) _ _ (second_refused (adjective_list_form false) (λ _. behind_form) joined_attributed_2 c.args.room _ _ _ c.in_ok-more.ensures _ _ c.in_err-behind.ensures))

pub returns : goal.returns
returns c =
    rw c.from_nodes.ensures (_, (both_found (name signs.Attribute) (λ _. attributed_2) joined_attributed_1 c.args.room _ _ _ (word_in_any Word (named signs.Attribute) c.args.room _ _ _ c.in_ok-attribute.ensures) _ _ (both_found (adjective_list_form false) (λ _. behind_form) joined_attributed_2 c.args.room _ _ _ c.in_ok-more.ensures _ _ c.in_ok-behind.ensures)), attributed_seen c.args.inside.open c.args.inside.terms c.args.inside.close c.in_ok-attribute.attribute c.in_ok-more.more c.in_ok-behind.behind)
