use Rattle.rules.proofs.Seeing.{arm_universal, rests3}
use Rattle.rules.proofs.rule3.Goals as goal

pub returns-in-Universal-clause-does : goal.returns-in-Universal-clause-does
returns-in-Universal-clause-does c = arm_universal c.args.book.now.table.sound c.args.c c.requires.room.0 c.requires.here c.role.ensures c.in-Universal.is c.universal.ensures.does

pub returns-in_default-clause-does : goal.returns-in_default-clause-does
returns-in_default-clause-does c = rests3 c.args.book.now.table.sound c.args.c c.requires.room.0 c.requires.here c.role.ensures c.in_default.not-Universal
