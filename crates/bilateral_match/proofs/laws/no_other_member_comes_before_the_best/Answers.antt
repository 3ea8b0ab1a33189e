use Rattle.std.proofs.Common.{refl}
use Rattle.ad_tree.specs.Ad.{ad_frames}
use Rattle.bilateral_match.specs.Members.{best, members}
use Rattle.bilateral_match.proofs.MemberLemmas.{first-is-best, one-first}
use Rattle.bilateral_match.proofs.laws.no_other_member_comes_before_the_best.Goals as goal

pub returns : goal.returns
returns c = record {
  are = λ pool number. first-is-best (members pool (ad_frames c.args.request.now) number);
  alone = λ pool number other h.
      let ms = members pool (ad_frames c.args.request.now) number in
      one-first ms ms other (best pool (ad_frames c.args.request.now) number) (λ f. refl) h (first-is-best ms);
}
