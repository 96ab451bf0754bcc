use Rattle.decide.proofs.seeks.Cursor.next_row.Goals as goal

pub follow-requires : goal.follow-requires
follow-requires c = (c.requires.0, λ h. rw c.in-One.is at (c.requires.2 h))
