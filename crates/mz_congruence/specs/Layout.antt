-- Where the nodes of a ground part stand.
use Rattle.std.specs.Prelude.{◌≡◌, ◌+◌, length}
use Rattle.mz_ground.specs.declared.ground_part.Ground.{Ground}
use Rattle.mz_congruence.specs.declared.numbering.Layout.{Layout}
use Rattle.mz_congruence.specs.declared.numbering.Numbering.{Numbering}
use Rattle.mz_congruence.specs.Nodes.{nodes_of, yes_place}

pub record IsLayout (g : Ground) (l : Layout) : Type 0 where
  pub positive : l.positive ≡ length g.terms
  pub negative : l.negative ≡ length g.terms + length g.atoms
  pub disequal : l.disequal ≡ length g.terms + length g.atoms + length g.atoms
  pub yes : l.yes ≡ yes_place g

pub record Numbered (g : Ground) (n : Numbering) : Type 0 where
  pub nodes : n.nodes ≡ nodes_of g
  pub layout : IsLayout g n.layout
