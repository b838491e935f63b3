use Rattle.std.proofs.Common.{◌≡◌, ◌∙◌, Some, ap, sym}
use Rattle.heap_image.specs.Decoded.{Decoded, decoded, whole}
use Rattle.heap_image.proofs.ImageDecoded.{image_read}
use Rattle.heap_image.proofs.laws.an_image_determines_its_objects.Goals as goal

pub returns : goal.returns
returns c = λ p q o n one other same.
    let e : whole p o ≡ whole q n = sym (image_read p o one) ∙ ap decoded same ∙ image_read q n other in
    let settings : Some p ≡ Some q = ap (λ (d : Decoded). d.settings) e in
    let profile : p ≡ q = cc in
    (profile, ap (λ (d : Decoded). d.objects) e)
