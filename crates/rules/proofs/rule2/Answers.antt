use Rattle.rules.proofs.Seeing.{arm_existential, rests2}
use Rattle.rules.proofs.rule2.Goals as goal

pub returns-in-Existential-clause-does : goal.returns-in-Existential-clause-does
returns-in-Existential-clause-does c = arm_existential c.args.book.now.table.sound c.args.c c.requires.room.1 c.requires.here c.role.ensures c.in-Existential.is c.existential.ensures.does

pub returns-in_default-clause-does : goal.returns-in_default-clause-does
returns-in_default-clause-does c = rests2 c.args.book.now.table.sound c.args.c c.requires.room.1 c.requires.here c.role.ensures c.in_default.not-Existential
