mod CommandIs
