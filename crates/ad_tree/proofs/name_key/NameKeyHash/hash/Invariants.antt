use Rattle.std.proofs.Common.{◌≡◌, length, map}
use Rattle.std.specs.Hash as fed
use Rattle.std.specs.List.{flat_map, fold}
use Rattle.pool_text.specs.Digests.{letter}
use Rattle.ad_tree.specs.Words.{words}
use Rattle.ad_tree.proofs.name_key.NameKeyHash.hash.Given as goal

abbrev pub invariant-loop-rest : goal.invariant-loop-rest
invariant-loop-rest g l =
    fold g.H.Hasher.write l.state (flat_map fed.u64 (words (map letter l.rest)))
    ≡ fold g.H.Hasher.write l.fn.state (flat_map fed.u64 (words (map letter l.self.name.now)))

abbrev pub decreases-loop-rest : goal.decreases-loop-rest
decreases-loop-rest g l = length l.rest
