use Rattle.page_model.proofs.Addresses.{address_is_slot, slot_is_address}
use Rattle.page_model.proofs.classes.slots_have_addresses.Goals as goal

pub returns-clause-slot : goal.returns-clause-slot
returns-clause-slot c = λ p c page slot ok lt. address_is_slot p ok c lt page slot

pub returns-clause-address : goal.returns-clause-address
returns-clause-address c = λ p c a ok s. slot_is_address p ok c s.class a s
