use Rattle.std.proofs.Common.{◌≡◌, true, sym, ap, ◌∙◌}
use Rattle.std.proofs.lemmas.Map.Text.{is_eq-slice_cmp}
use Rattle.std.specs.Cmp.Lexicographic.{slice_cmp, bytes_decides}
use Rattle.std.specs.Ordering.{is_eq, nat_cmp}
use Rattle.std.specs.Str.{bytes_eq}
use Rattle.pool_text.specs.Folding.{folded}
use Rattle.ad_value.specs.Plain.{boolean}
use Rattle.ad_value.proofs.laws.equal_texts_fold_alike.Goals as goal

pub returns : goal.returns
returns c =
    let a = folded c.args.a.now in
    let b = folded c.args.b.now in
    let by_order : is_eq (slice_cmp nat_cmp a b) ≡ bytes_eq a b = is_eq-slice_cmp a b in (
      λ equal. let holds : is_eq (slice_cmp nat_cmp a b) ≡ true = cc in (bytes_decides a b).0 (sym by_order ∙ holds),
      λ alike. ap boolean (by_order ∙ (bytes_decides a b).1 alike),
    )
