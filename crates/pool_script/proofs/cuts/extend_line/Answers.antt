use Rattle.std.proofs.Common.{◌≡◌, ◌++◌, ℕ, ◌-◌, length, min, take, ap, ◌∙◌}
use Rattle.pool_script.proofs.LongLemmas.{kept-append}
use Rattle.pool_script.proofs.cuts.extend_line.Goals as goal

pub returns-clause-ok : goal.returns-clause-ok
returns-clause-ok c =
    let line = c.args.line.now in
    let fits : c.min-fits.result ≡ min (65537 - length line.items) (length c.args.bytes.now) =
    c.min-fits.ensures ∙ ap (λ (n : ℕ). min (65537 - n) (length c.args.bytes.now)) (c.len.ensures ∙ line.ok.0) in
    c.in_ok-extend_from_slice.ensures.items ∙ ap (λ (n : ℕ). line.items ++ take n c.args.bytes.now) fits ∙ kept-append line.items c.args.bytes.now c.requires
