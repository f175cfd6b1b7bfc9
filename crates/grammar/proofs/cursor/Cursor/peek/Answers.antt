use Rattle.grammar.proofs.Ahead.{token_next, word_ahead, number_ahead, sign_ahead, end_ahead}
use Rattle.grammar.proofs.Cursors.{sees}
use Rattle.grammar.proofs.cursor.Cursor.peek.Goals as goal

pub returns-in-Word-clause-sees : goal.returns-in-Word-clause-sees
returns-in-Word-clause-sees c =
    sees c.args.self.now (word_ahead _ _ c.in-Some.next (token_next _ _ _ _ c.next.ensures c.in-Some.ensures)
    c.in-Word.word _ c.in-Word.is c.word_class-class.ensures)

pub returns-in-Number-clause-sees : goal.returns-in-Number-clause-sees
returns-in-Number-clause-sees c =
    sees c.args.self.now (number_ahead _ _ c.in-Some.next (token_next _ _ _ _ c.next.ensures c.in-Some.ensures)
    c.in-Number.number c.in-Number.is)

pub returns-in-Sign-clause-sees : goal.returns-in-Sign-clause-sees
returns-in-Sign-clause-sees c =
    sees c.args.self.now (sign_ahead _ _ c.in-Some.next (token_next _ _ _ _ c.next.ensures c.in-Some.ensures)
    c.in-Sign.sign _ c.in-Sign.is c.from-class.ensures)

pub returns-in-None-clause-sees : goal.returns-in-None-clause-sees
returns-in-None-clause-sees c = sees c.args.self.now (end_ahead _ _ _ c.next.ensures c.in-None.ensures)
