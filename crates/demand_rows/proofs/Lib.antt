mod EntryPlans
