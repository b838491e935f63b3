use Rattle.top_call.proofs.top.cf_main.Goals as goal

pub returns-clause-outcome : goal.returns-clause-outcome
returns-clause-outcome g c = c.run_arguments.ensures.keeps.outcome

pub returns-clause-claimed : goal.returns-clause-claimed
returns-clause-claimed g c = c.run_arguments.ensures.keeps.claimed

pub returns-clause-kinds : goal.returns-clause-kinds
returns-clause-kinds g c = c.run_arguments.ensures.keeps.kinds

pub returns-clause-orders : goal.returns-clause-orders
returns-clause-orders g c = c.run_arguments.ensures.keeps.orders
