use Rattle.std.proofs.Common.{sym, ◌∙◌}
use Rattle.std.proofs.lemmas.List.Sorted.{sum_by-IsPermutation}
use Rattle.ad_tree.specs.Ad.{ad_frames}
use Rattle.bilateral_match.specs.Answers.{answers, matches_from}
use Rattle.bilateral_match.proofs.OrderLemmas.{arranged-in-order, arranged-permutation, in-order-from, one-order, sorted-from}
use Rattle.bilateral_match.proofs.laws.answers_are_all_matches_in_order.Goals as goal

pub returns : goal.returns
returns c =
    let m = matches_from c.args.moment (ad_frames c.args.request.now) 0 in
    record {
      are = λ ads. record {
        all =
            arranged-permutation (m ads);
        ordered = sorted-from (answers c.args.moment (ad_frames c.args.request.now) ads) (arranged-in-order (m ads));
      };
      alone = λ ads others h.
          one-order others (answers c.args.moment (ad_frames c.args.request.now) ads) (in-order-from others h.ordered) (arranged-in-order (m ads))
          (λ f. sum_by-IsPermutation f (m ads) others h.all ∙ sym (sum_by-IsPermutation f (m ads) (answers c.args.moment (ad_frames c.args.request.now) ads)
          (arranged-permutation (m ads))));
    }
