-- Proofs, not definitions: both gradings of this crate keep the laws of every grading.
use Rattle.std.proofs.Common.{rules}
use Rattle.std.specs.Prelude.{◌*◌, ◌≤◌, min}
use Rattle.sweep.specs.Laws.{Laws, delay_ops, room_ops}

pub delay_lawful : Laws delay_ops (λ j x. x ≤ j * 1000000) (λ x. min x 4294967295)
delay_lawful = search rules

pub room_lawful : Laws room_ops (λ _ _. Unit {0}) (λ x. x)
room_lawful = search rules
