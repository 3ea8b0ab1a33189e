-- What a printed text is read as again.
use Rattle.std.specs.Prelude.{◌≡◌, List, Result, Ok, Err}
use Rattle.ad_tree.specs.declared.ad.Ad.{Ad}
use Rattle.ad_tree.specs.declared.phrase.Phrase.{Phrase}
use Rattle.ad_tree.specs.Ad.{ad_frames}
use Rattle.ad_tree.specs.Frames.{Frame}
use Rattle.ad_tree.specs.Tree.{Tree, tree}
use Rattle.ad_parser.specs.declared.fault.ParseFault.{ParseFault}
use Rattle.ad_parser.specs.declared.fault.ParseFault.TheVariants.{OutOfMemory}

-- an answer is an ad of these frames, or want of memory
abbrev pub IsAdAgain : List Frame → Result Ad ParseFault → Type 0
IsAdAgain fs (Ok ad) = ad_frames ad ≡ fs
IsAdAgain fs (Err fault) = fault ≡ OutOfMemory

-- an answer is a phrase of these frames and this plain tree, or want of memory
abbrev pub IsPhraseAgain : List Frame → Tree → Result Phrase ParseFault → Type 0
IsPhraseAgain fs t (Ok phrase) = (ad_frames phrase.ad ≡ fs) × (tree phrase.expr ≡ t)
IsPhraseAgain fs t (Err fault) = fault ≡ OutOfMemory
