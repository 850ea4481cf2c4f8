-- What is read of a scheme besides its letters, and where an article stands behind it.
use Rattle.std.specs.Prelude.{◌+◌}
use Rattle.mz_core.specs.declared.outcome.Left.{Left}
use Rattle.mz_context.specs.declared.context.Context.{Context}
use Rattle.mz_standing.specs.Standing.{with_context, with_item, behind_scheme}
use Rattle.mz_standing.specs.declared.standing.Standing.{Standing}
use Rattle.mz_tree_item.specs.declared.schemes.SchemeTree.{SchemeTree}
use Rattle.mz_scheme_items.specs.StatesScheme.{SchemeHeading, heading, scheme_item}
use Rattle.mz_letters.specs.Aside.{put_back}
use Rattle.mz_letters.specs.declared.aside.Aside.{Aside}
use Rattle.mz_scheme.specs.declared.heading.ReadHeading.{ReadHeading}

-- with its letters in force in the context
abbrev pub heading_in : Context → Left → ReadHeading → SchemeHeading
heading_in c left x = heading c x.conclusion x.premises left

-- where what was aside is put back, and the scheme is an item
abbrev pub ended : Standing → Aside → SchemeTree → ReadHeading → Standing
ended s a t x =
    with_context (with_item s (scheme_item (heading_in s.context s.left x))) (behind_scheme (put_back s.context a) (scheme_item (heading_in s.context s.left x)) t.name.spelling (s.numbering.schemes + 1))
