use Rattle.spaces.proofs.Spaces.fill.Goals as goal

pub returns-then-store : goal.returns-then-store
returns-then-store g c = c.if-store.ensures.done

pub fill_pages-requires-clause-space : goal.fill_pages-requires-clause-space
fill_pages-requires-clause-space g c = rw c.if-store.ensures.refused c.requires.space

pub fill_pages-requires-clause-inside : goal.fill_pages-requires-clause-inside
fill_pages-requires-clause-inside g c = rw c.if-store.ensures.refused c.requires.inside

pub returns : goal.returns
returns g c = rw (← c.if-store.ensures.refused) c.fill_pages.ensures
