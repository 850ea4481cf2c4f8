use Rattle.std.proofs.Common.{◌≡◌, drop}
use Rattle.mz_following.specs.Following.{followed_terms}
use Rattle.mz_following.proofs.following.+follow_terms.Given as goal

abbrev pub invariant-follow_terms-loop-i : goal.invariant-follow_terms-loop-i
invariant-follow_terms-loop-i l = followed_terms (drop l.i l.ts-inside.items.items) (drop l.i l.us-inside.items.items) l.letters ≡ followed_terms l.ts-inside.items.items l.us-inside.items.items l.initial.letters
