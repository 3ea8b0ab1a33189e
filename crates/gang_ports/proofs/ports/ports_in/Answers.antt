use Rattle.std.proofs.Common.{◌≡◌, ◌<◌, ◌∷◌, ◌++◌, All, [], Option, Some, IfSome, length, sym, ◌∙◌, subst}
use Rattle.std.proofs.lemmas.List.Elements.{All-push}
use Rattle.ad_tree.specs.Ad.{ad_frames}
use Rattle.ad_tree.specs.Tree.{tree, trees}
use Rattle.ad_tree.specs.declared.request.Port.{Port}
use Rattle.gang_ports.proofs.PortLemmas.{ports-fail, ports-next}
use Rattle.gang_ports.proofs.ports.ports_in.Goals as goal

pub returns-in_default-clause-ports : goal.returns-in_default-clause-ports
returns-in_default-clause-ports c =
    ports-fail (ad_frames c.args.ad.now) (trees c.args.items.now) c.loop-i.ports c.loop-i.i (tree c.at.result.now) c.at.ensures
    (sym c.in_default.is ∙ c.in_ok-port.ensures.port) c.loop-i.invariant.ports

pub loop-i-preserved : goal.loop-i-preserved
loop-i-preserved c =
    let fs = ad_frames c.args.ad.now in
    let port = c.in-Some.port in
    let pushed : c.push.new.self ≡ c.loop-i.ports ++ port ∷ [] = c.in_ok-push.ensures.ok in
    let inside : IfSome (Some port) (λ p. p.frame < length fs) =
    subst (λ (o : Option Port). IfSome o (λ p. p.frame < length fs)) c.in-Some.is c.in_ok-port.ensures.within in
    record {
      ports =
          ports-next fs (trees c.args.items.now) c.loop-i.ports c.push.new.self c.loop-i.i (tree c.at.result.now) port pushed c.at.ensures
          (sym c.in-Some.is ∙ c.in_ok-port.ensures.port) c.loop-i.invariant.ports;
      within =
          subst (All (λ (p : Port). p.frame < length fs)) (sym pushed)
          (All-push (λ (p : Port). p.frame < length fs) c.loop-i.ports port c.loop-i.invariant.within inside);
    }
