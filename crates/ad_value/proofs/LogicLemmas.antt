-- Where the left side of `&&` or `||` decides.
use Rattle.std.proofs.Common.{◌≡◌, ◌↔◌, IsTrue, true, false, refl}
use Rattle.ad_value.specs.Plain.{Plain, undefined, error, boolean, integer, decimal, text, list, ad_at}
use Rattle.ad_value.specs.Logic.{and_is_decided, and_value, or_is_decided, or_value}

pub and_is_decided-iff : (left : Plain) → IsTrue (and_is_decided left) ↔ ((one other : Plain) → and_value left one ≡ and_value left other)
and_is_decided-iff undefined = (λ h. cc, λ same. let differ : undefined ≡ boolean false = same undefined (boolean false) in cc)
and_is_decided-iff error = (λ h one other. refl, λ same. refl)
and_is_decided-iff (boolean true) = (λ h. cc, λ same. let differ : undefined ≡ boolean false = same undefined (boolean false) in cc)
and_is_decided-iff (boolean false) = (λ h one other. refl, λ same. refl)
and_is_decided-iff (integer n) = (λ h one other. refl, λ same. refl)
and_is_decided-iff (decimal m) = (λ h one other. refl, λ same. refl)
and_is_decided-iff (text bytes) = (λ h one other. refl, λ same. refl)
and_is_decided-iff (list items) = (λ h one other. refl, λ same. refl)
and_is_decided-iff (ad_at place) = (λ h one other. refl, λ same. refl)

pub or_is_decided-iff : (left : Plain) → IsTrue (or_is_decided left) ↔ ((one other : Plain) → or_value left one ≡ or_value left other)
or_is_decided-iff undefined = (λ h. cc, λ same. let differ : undefined ≡ boolean true = same undefined (boolean true) in cc)
or_is_decided-iff error = (λ h one other. refl, λ same. refl)
or_is_decided-iff (boolean true) = (λ h one other. refl, λ same. refl)
or_is_decided-iff (boolean false) = (λ h. cc, λ same. let differ : undefined ≡ boolean true = same undefined (boolean true) in cc)
or_is_decided-iff (integer n) = (λ h one other. refl, λ same. refl)
or_is_decided-iff (decimal m) = (λ h one other. refl, λ same. refl)
or_is_decided-iff (text bytes) = (λ h one other. refl, λ same. refl)
or_is_decided-iff (list items) = (λ h one other. refl, λ same. refl)
or_is_decided-iff (ad_at place) = (λ h one other. refl, λ same. refl)
